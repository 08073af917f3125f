pub mod Six
pub mod Apply
pub mod Whole
pub mod Coordinate
pub mod Meaning
