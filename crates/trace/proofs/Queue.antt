-- The wait queue: how the record's array of waiters pictures the waits of the receipts. Assumes nothing.
pub mod Line
pub mod Order
pub mod Places
pub mod Tasks
pub mod Waiters
pub mod Enter
pub mod Grant
pub mod Ticks
pub mod Sound
