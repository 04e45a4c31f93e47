pub mod Program
pub mod Library
pub mod Gauge
