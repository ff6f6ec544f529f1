pub mod Take
pub mod Rules
pub mod Agreeing
pub mod Waiting
pub mod Ends
pub mod Adding
pub mod Padding
pub mod Profiles
