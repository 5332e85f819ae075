pub mod Fronts
pub mod Passing
pub mod RoundTrip
pub mod Examples
