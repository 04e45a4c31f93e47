pub mod Laws
pub mod Count
pub mod Doubling
