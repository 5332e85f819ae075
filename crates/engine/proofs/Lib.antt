mod Laws
mod Allowed
mod Judged
pub mod FormNotAsked
pub mod Calls
