pub mod Outcomes
pub mod Pieces
