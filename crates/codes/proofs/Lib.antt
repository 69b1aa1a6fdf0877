pub mod Codes
pub mod ListCodes
pub mod ToldCodes
pub mod CommandCodes
pub mod FilledCodes
