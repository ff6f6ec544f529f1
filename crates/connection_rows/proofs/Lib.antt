pub mod Tables
pub mod Tests
pub mod Bytes
pub mod Arrival
pub mod Calls
pub mod Rows
