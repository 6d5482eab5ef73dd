pub mod Answer
pub mod Did
