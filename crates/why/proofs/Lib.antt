pub mod FromDistance
pub mod Told
