-- What follows from the definitions: a file for each file of specs/.
pub mod Round
pub mod Layout
pub mod Power
