pub mod Reading
pub mod Demand2
pub mod Lists
