pub mod Askings
pub mod Forms
mod Laid
pub mod Replays
