pub mod Answers
pub mod OpenEnd
pub mod Padding
