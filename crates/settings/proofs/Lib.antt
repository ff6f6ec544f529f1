pub mod Rules
pub mod Agreement
