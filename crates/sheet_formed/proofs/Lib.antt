pub mod Scan
pub mod Judged
pub mod Types
pub mod Inner
