pub mod Profile
pub mod Breaks
