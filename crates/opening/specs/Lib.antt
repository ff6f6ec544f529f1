pub mod Opening
pub mod Short
pub mod Forms
