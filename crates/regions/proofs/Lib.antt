pub mod Clear
pub mod Count
pub mod Reading
pub mod Making
