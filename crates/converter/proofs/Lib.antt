pub mod Front
pub mod TableForm
pub mod WireForm
pub mod Refusals
pub mod Longer
pub mod Tables
pub mod Stamped
