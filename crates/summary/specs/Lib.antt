pub mod Classes
pub mod Counters
pub mod Counting
