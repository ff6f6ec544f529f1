pub mod If
pub mod Characters
