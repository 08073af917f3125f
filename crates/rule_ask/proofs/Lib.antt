pub mod Tables
pub mod Turned
pub mod Given
pub mod Quiet
pub mod Asks
pub mod Keeps
pub mod Shows
