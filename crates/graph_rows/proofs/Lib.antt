pub mod Halve
pub mod Stretches
pub mod Families
