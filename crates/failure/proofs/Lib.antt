pub mod StopRule
pub mod Room
pub mod Marking
pub mod Stopping
pub mod GoingOn
