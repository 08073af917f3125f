pub mod Fill
pub mod Same
pub mod Back
pub mod Types
pub mod Marked
pub mod Potential
