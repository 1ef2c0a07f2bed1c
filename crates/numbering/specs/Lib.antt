pub mod Choice
pub mod Allows
pub mod Numbers
pub mod Promises
pub mod Splits
