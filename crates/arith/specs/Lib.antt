pub mod Round
pub mod Power
pub mod Layout
