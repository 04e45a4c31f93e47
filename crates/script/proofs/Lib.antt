pub mod Computed
pub mod Laws
pub mod Rows
pub mod WrittenCalls
pub mod WrittenScript
pub mod Examples
