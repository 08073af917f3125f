pub mod Number
pub mod Formulas
