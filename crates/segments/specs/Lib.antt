pub mod MapWords
pub mod Lending
pub mod Serving
pub mod Verdicts
pub mod Held
