pub mod Complaints
pub mod Failures
pub mod Lines
pub mod Options
pub mod Waiting
pub mod Words
