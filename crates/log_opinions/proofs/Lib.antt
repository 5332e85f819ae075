pub mod SameAsReader
pub mod Examples
