pub mod Numbers
pub mod HandedOn
