-- What the region directives share, on a state that is pictured by the receipts: checks, slots, loans, the queue and serving it. Assumes nothing.
pub mod Checks
pub mod Live
pub mod Picture
pub mod Put
pub mod Lending
pub mod Queue
pub mod Serve
pub mod Stepped
pub mod Rounds
