pub mod Outcomes
pub mod Laws
pub mod Gaps
pub mod Verdict
pub mod Rules
pub mod Given
pub mod Bytes
pub mod Worked
