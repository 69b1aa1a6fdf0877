pub mod LineLaws
pub mod Packed
pub mod Accepted
pub mod Ranges
