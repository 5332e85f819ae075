pub mod Unpacking
pub mod Verdicts
pub mod AsPlayed
