pub mod Sent
pub mod Lines
pub mod Channel
pub mod Claim
