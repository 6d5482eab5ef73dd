pub mod Placed
pub mod Pushing
pub mod Rewritten
