pub mod Sets
pub mod Ends
