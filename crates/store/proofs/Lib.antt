pub mod Entries
pub mod Grows
