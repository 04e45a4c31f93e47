pub mod Chain
pub mod Queue
