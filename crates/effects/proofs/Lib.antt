pub mod Answers
pub mod Rounds
pub mod Access
pub mod Theorem
