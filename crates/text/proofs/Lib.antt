pub mod Laws
pub mod Digits
pub mod Numbers
pub mod WrittenLines
