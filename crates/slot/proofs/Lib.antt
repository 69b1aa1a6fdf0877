pub mod Words
pub mod Blocks
pub mod Steps
pub mod Locks
pub mod Ends
