pub mod OriginMasks
pub mod FoundMoves
pub mod MovePlans
pub mod MoveRooms
