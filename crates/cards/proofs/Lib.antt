pub mod Searches
pub mod Tables
pub mod Rows
pub mod Plans
pub mod Starts
