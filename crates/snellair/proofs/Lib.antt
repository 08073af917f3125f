pub mod Only
pub mod Fits
