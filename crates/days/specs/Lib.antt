pub mod House
pub mod Faults
pub mod Goes
pub mod Own
pub mod Laws
pub mod Rows
pub mod Outcomes
