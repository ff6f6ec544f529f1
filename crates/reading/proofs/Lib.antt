pub mod Frame
pub mod Whole
pub mod Demand2
pub mod Lists
pub mod GivenUp
pub mod Break
pub mod Flags
