pub mod Areas
pub mod Slots
