pub mod Rows
pub mod Values
pub mod Reading
pub mod Locking
pub mod LookUp
pub mod Calls
