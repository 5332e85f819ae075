pub mod Examples
pub mod Agree
pub mod Back
pub mod SameAsRules
