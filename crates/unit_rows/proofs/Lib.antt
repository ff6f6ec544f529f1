pub mod Ways
pub mod Arrival
pub mod Calls
pub mod Rows
pub mod UnitRows
