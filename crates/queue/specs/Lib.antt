pub mod Empty
pub mod Full
pub mod Heap
pub mod Held
pub mod Orders
pub mod Put
pub mod Sorted
pub mod Taken
