pub mod Looks
pub mod MoveRows
pub mod MoveWrites
pub mod Moves
pub mod Settles
pub mod Retires
pub mod SettledMasks
