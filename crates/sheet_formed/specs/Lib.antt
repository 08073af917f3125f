pub mod Ill
pub mod Sheet
