pub mod Packed
pub mod Laid
