pub mod Due
pub mod Free
pub mod Largest
pub mod Reading
pub mod Unless
