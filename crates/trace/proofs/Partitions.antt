-- What the partition directives share, on a state that is pictured by the receipts: a partition put into a slot. Assumes nothing.
pub mod Slot
