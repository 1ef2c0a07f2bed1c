pub mod Bits
pub mod Row
