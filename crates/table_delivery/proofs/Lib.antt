pub mod Places
pub mod Lawful
pub mod Demand3
pub mod Opened
pub mod Others
pub mod Each
