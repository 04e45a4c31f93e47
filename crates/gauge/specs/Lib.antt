pub mod Gauge
pub mod Readings
pub mod Examples
