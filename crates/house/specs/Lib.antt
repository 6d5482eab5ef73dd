pub mod Deeds
pub mod DeskFaults
pub mod Desks
pub mod Faults
pub mod New
pub mod Performed
