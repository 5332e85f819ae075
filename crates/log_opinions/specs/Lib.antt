pub mod OfLog
pub mod SameAsReader
pub mod Examples
