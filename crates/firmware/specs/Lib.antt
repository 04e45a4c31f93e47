pub mod Exported
pub mod Reading
