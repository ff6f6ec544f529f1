pub mod Counting
pub mod Rules
