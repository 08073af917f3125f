pub mod Machine
pub mod Rules
pub mod Rounds
pub mod Stocks
pub mod Program
