pub mod Waiting
mod Steps
pub mod Verdicts
mod Advance
mod Through
mod Coding
mod Tables
mod Planned
pub mod Carried
