pub mod Check
pub mod Meaning
pub mod Many
