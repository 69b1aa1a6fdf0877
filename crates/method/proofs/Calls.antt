-- The calls, a family a file. Assumes nothing.
pub mod Agreement
pub mod Transactions
pub mod Records
pub mod Cards
pub mod Fail
pub mod Reorganise
pub mod Every
