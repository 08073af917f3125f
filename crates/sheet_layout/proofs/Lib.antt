pub mod Bounds
pub mod Blocks
