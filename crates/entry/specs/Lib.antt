pub mod Layout
pub mod Entry
pub mod Rows
pub mod Replay
