-- The laws of the stores in a map by halves.
pub mod Search
pub mod Carve
pub mod Take
pub mod Join
pub mod Release
