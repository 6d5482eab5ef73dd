pub mod Format
pub mod Day
pub mod Kind
