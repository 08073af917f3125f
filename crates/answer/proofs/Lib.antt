pub mod Settled
pub mod Unpack
