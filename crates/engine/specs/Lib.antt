pub mod Views
pub mod FormNotAsked
pub mod Calls
