pub mod Take
pub mod Rules
pub mod Padding
