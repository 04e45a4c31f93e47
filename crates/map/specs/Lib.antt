pub mod Word
pub mod Walk
