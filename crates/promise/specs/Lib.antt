pub mod Given
pub mod Promise
pub mod Rows
pub mod Laid
