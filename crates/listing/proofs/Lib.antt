pub mod Pad
pub mod Longest
pub mod Only
pub mod Runs
pub mod Ends
