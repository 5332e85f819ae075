pub mod Examples
pub mod Items
pub mod Sides
pub mod Gaps
pub mod Turnings
pub mod Tested
pub mod Margins
pub mod AtMachine
