pub mod Draws
pub mod Meaning
pub mod Types
pub mod Alike
pub mod Many
