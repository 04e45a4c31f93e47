-- Answers by the receipts: how checks and ids agree with them, what reads and writes are answered, and what the replies come to. Assumes
-- nothing.
pub mod Checks
pub mod Ids
pub mod Names
pub mod Access
pub mod Consequences
