pub mod Single
pub mod Formulas
