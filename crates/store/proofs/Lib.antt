pub mod OneRecordList
pub mod Protection
mod MoveRuns
pub mod MoveList
pub mod NoMoves
mod MoveRows
pub mod ThroughStops
pub mod Twins
