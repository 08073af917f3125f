pub mod Cases
pub mod Setting
pub mod Types
pub mod Alike
