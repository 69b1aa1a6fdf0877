pub mod Serials
pub mod ControlBytes
pub mod Stamps
pub mod Meaning
