pub mod Alike
pub mod Plain
pub mod Worked
