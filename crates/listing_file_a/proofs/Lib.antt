pub mod FileA
