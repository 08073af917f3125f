pub mod Follows
pub mod Truth
pub mod Known
