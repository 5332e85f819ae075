pub mod Turning
pub mod Reason
pub mod ReasonFacts
pub mod Examples
