pub mod Ends
pub mod Lawful
pub mod Demand3
