pub mod Scratch
pub mod Sound
pub mod Made
pub mod Leaves
pub mod Faults
pub mod Build
