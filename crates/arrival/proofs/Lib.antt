pub mod Arriving
pub mod NoTests
pub mod Rules
