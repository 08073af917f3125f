pub mod Turn
pub mod Mixed
pub mod Brought
pub mod Done
pub mod Still
pub mod Kept
