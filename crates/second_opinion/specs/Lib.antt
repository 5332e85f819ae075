pub mod Places
pub mod Views
pub mod Decided
pub mod Telling
pub mod Finding
pub mod Whole
