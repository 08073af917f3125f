pub mod Only
pub mod Queued
