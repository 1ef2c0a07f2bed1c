mod Entries
mod Events
mod Short
