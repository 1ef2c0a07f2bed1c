pub mod Pattern
pub mod Measures
pub mod Schema
pub mod Fits
