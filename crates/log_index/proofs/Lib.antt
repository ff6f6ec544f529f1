pub mod Counts
pub mod Indexing
pub mod Lists
pub mod Worked
