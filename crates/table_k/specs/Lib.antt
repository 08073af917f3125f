pub mod File
pub mod Table
pub mod Known
