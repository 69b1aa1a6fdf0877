pub mod Plans
pub mod Promise
