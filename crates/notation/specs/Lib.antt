pub mod Transcribing
pub mod Notation
pub mod Examples
pub mod RoundTrip
