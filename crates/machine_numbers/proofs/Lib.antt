pub mod RoundTrip
pub mod Forms
