pub mod Argument
pub mod Card
pub mod Laid
