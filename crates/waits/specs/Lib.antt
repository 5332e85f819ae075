pub mod Capped
pub mod Turns
pub mod Digits
