pub mod Sending
pub mod Windows
pub mod Channels
pub mod Stages
pub mod Reachable
