pub mod Meaning
pub mod Agree
pub mod Words
pub mod Same
pub mod Only
pub mod Sweeping
pub mod Settles
pub mod Alike
