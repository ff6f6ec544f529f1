pub mod LineEnds
pub mod Handed
pub mod Letters
pub mod Names
pub mod Counting
pub mod Sentences
pub mod RowRules
pub mod Worked
