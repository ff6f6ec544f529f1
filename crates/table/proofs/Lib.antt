pub mod Found
pub mod Rules
pub mod Places
pub mod Worked
