pub mod Marks
pub mod Sound
pub mod Outcomes
pub mod Builds
