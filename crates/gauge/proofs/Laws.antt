-- What follows from the definitions of the gauge: the rounding of fractions, and the fills that a reading makes of them.
pub mod Rounding
pub mod Smoothing
pub mod Fills
pub mod Ends
pub mod Totals
