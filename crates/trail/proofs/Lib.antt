pub mod Listed
pub mod Holding
