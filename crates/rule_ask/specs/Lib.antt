pub mod Gives
pub mod Walk
