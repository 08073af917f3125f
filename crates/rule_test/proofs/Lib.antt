pub mod Blocks
pub mod Named
pub mod Keys
pub mod Exact
pub mod Types
