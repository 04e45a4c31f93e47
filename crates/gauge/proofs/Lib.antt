pub mod Laws
pub mod Claims
pub mod Computing
pub mod Examples
pub mod Refuted
