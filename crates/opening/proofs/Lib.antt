pub mod Elements
pub mod RoundTrip
pub mod Rules
pub mod ShortRules
