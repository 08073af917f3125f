pub mod Stays
pub mod Step
pub mod Moves
pub mod Enters
mod Ranges
