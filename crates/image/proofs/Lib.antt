pub mod Parts
pub mod Zeros
pub mod Blocks
pub mod Ends
