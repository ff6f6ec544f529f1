pub mod Branches
pub mod Cases
pub mod Lists
pub mod Cuts
pub mod Parts
