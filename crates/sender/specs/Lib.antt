pub mod Sending
pub mod Writing
