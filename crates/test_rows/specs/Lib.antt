pub mod Laid
pub mod Spent
