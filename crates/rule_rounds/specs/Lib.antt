pub mod Chain
pub mod Climb
pub mod Rounds
