pub mod Records
pub mod Steps
pub mod Runs
pub mod Openings
pub mod Isolation
pub mod IsolationExample
