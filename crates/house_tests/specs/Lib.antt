pub mod Drafted
pub mod Refused
pub mod Rows
pub mod Stepped
pub mod Told
