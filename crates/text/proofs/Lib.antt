pub mod Words
pub mod Numbers
pub mod Pairs
pub mod Written
pub mod Decimal
