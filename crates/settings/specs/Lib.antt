pub mod Settings
pub mod Agreed
