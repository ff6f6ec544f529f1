pub mod Time
pub mod Outgoing
pub mod Kinds
pub mod Cutting
pub mod Published
pub mod Forms
