pub mod Cards
pub mod Masks
pub mod Pairs
pub mod PairSets
pub mod Placements
pub mod SiteMasks
