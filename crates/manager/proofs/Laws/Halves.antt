-- The laws of maps by halves.
pub mod Cut
pub mod Place
pub mod Take
pub mod Release
pub mod Shift
