pub mod Writing
pub mod Laws
pub mod Running
pub mod EndToEnd
