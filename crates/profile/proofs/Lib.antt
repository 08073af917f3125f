pub mod Breaks
pub mod OneShot
pub mod Alike
