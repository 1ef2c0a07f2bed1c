pub mod Caps
pub mod Measures
