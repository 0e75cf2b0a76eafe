pub mod Beginning
pub mod Bounds
pub mod Counting
pub mod Following
pub mod Passing
pub mod Released
pub mod Standing
