pub mod Judge
pub mod Judgement
pub mod Meaning
pub mod Graph
pub mod Lines
