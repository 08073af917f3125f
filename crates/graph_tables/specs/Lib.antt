pub mod Trailer
pub mod Rows
pub mod Fields
pub mod Family
pub mod Kinds
pub mod Named
