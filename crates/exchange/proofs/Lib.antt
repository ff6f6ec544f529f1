pub mod Exchange
pub mod Default
