pub mod Receiving
pub mod Inside
