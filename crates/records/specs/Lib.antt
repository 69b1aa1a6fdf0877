pub mod Slots
pub mod Access
