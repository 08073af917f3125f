pub mod Join
pub mod Written
mod Places
pub mod Lengths
pub mod Back
pub mod Shown
