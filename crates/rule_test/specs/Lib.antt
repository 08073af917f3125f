pub mod Keys
pub mod Sheet
