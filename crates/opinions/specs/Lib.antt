pub mod Earlier
pub mod Opinion
pub mod SameAsRules
pub mod Examples
