pub mod Text
pub mod Digits
pub mod Puts
pub mod Writes
