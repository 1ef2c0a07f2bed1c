pub mod Pairs
pub mod Events
pub mod Beginning
pub mod Promises
pub mod Layable
pub mod Lays
pub mod Laying
