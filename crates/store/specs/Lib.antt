pub mod Rows
pub mod Faults
