pub mod Fill
pub mod Laws
pub mod Pairs
pub mod Searched
pub mod Slots
