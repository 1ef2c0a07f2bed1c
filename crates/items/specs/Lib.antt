pub mod Items
pub mod Asked
