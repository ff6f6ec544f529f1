pub mod Profile
pub mod Opening
pub mod Forms
