pub mod Lengths
pub mod Longest
pub mod Shown
pub mod Known
