pub mod Rules
pub mod Requests
pub mod Setups
pub mod Open
pub mod Padding
