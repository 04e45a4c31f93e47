pub mod Notices
pub mod Outcomes
