pub mod Joined
pub mod Spending
