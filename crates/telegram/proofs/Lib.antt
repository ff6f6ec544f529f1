pub mod Bytes
pub mod RoundTrip
pub mod Forms
pub mod Cut
pub mod Rules
