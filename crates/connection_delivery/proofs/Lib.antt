pub mod Ends
pub mod Keeps
pub mod Around
pub mod Lawful
pub mod Opened
pub mod Demand3
