pub mod Buffers
pub mod ReadAnswers
pub mod Advances
pub mod AllListed
pub mod Loop
pub mod Known
