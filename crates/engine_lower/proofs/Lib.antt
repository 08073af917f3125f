pub mod Good
pub mod Numbers
pub mod Stands
pub mod Rank
pub mod Hits
pub mod Put
pub mod Block
