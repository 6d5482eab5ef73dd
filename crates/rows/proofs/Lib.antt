pub mod Chunks
pub mod Counted
pub mod Over
pub mod PartChains
pub mod Pieces
pub mod Written
