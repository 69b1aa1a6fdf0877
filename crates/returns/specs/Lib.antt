pub mod Promise
pub mod Rejoining
pub mod Resumes
