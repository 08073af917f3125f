pub mod Rows
pub mod Stocks
pub mod Sheets
pub mod Words
pub mod Verdicts
pub mod Raised
pub mod Example
