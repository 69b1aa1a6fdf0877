pub mod Rows
pub mod Running
pub mod Locks
pub mod Joined
pub mod Finish
pub mod Resumes
