pub mod Laws
pub mod Ticks
