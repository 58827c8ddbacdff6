pub mod Heap
pub mod Open
pub mod Places
pub mod Trail
