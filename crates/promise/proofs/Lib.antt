pub mod Laid
pub mod PutEach
pub mod View
pub mod Finish
pub mod SharedRows
pub mod WholePart
pub mod Stamping
