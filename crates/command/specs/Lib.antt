pub mod Commands
pub mod Meaning
pub mod Operations
pub mod RoundTrips
