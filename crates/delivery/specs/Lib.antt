pub mod End
pub mod System
pub mod Claim
pub mod BothWays
pub mod Line
pub mod Laws
