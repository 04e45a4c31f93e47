pub mod Output
pub mod Writer
pub mod Run
