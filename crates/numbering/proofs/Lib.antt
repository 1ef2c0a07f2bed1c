mod OneToOne
pub mod Numbered
