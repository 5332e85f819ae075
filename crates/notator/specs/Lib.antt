pub mod Adds
pub mod Words
pub mod Notates
pub mod Room
pub mod RoundTrip
pub mod Examples
