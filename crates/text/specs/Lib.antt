pub mod Output
pub mod Words
pub mod Numbers
pub mod Pairs
pub mod Digits
pub mod Written
