pub mod Table
pub mod Shown
pub mod Reading
pub mod Written
