pub mod Read
pub mod Inner
pub mod Under
pub mod Write
