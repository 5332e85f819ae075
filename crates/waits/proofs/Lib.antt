pub mod Bounds
pub mod Distances
pub mod Halving
pub mod Below
pub mod Digits
pub mod Order
