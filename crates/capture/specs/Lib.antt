pub mod Reading
pub mod Log
pub mod Cutting
pub mod Lines
pub mod Inside
