pub mod Indexing
pub mod Listing
