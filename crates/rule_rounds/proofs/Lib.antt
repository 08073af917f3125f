pub mod Once
pub mod Powers
pub mod Steps
pub mod Takes
pub mod Last
pub mod Cases
