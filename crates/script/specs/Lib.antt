pub mod Layout
pub mod Refusals
pub mod Rows
pub mod Allowed
pub mod Rule
