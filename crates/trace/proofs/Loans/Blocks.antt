-- A map by halves, by its loans: what it is drawn from, which loans draw one, where an aligned run is free, and what a get and a return
-- leave. All by induction over how a map by halves is built. Assumes nothing.
pub mod Drawn
pub mod Fits
pub mod Runs
pub mod Steps
