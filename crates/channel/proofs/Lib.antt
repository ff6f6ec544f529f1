pub mod Closing
pub mod Passing
pub mod Handing
pub mod NoTests
pub mod Rules
pub mod Adding
