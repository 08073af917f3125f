pub mod Swept
pub mod Meaning
