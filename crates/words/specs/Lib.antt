pub mod Bytes
pub mod Lowest
pub mod Write
pub mod Turn
pub mod Least
pub mod Four
