pub mod Lines
pub mod Meant
