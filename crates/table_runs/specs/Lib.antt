pub mod Runs
pub mod Isolation
