pub mod Verdict
pub mod Shows
pub mod AsPlayed
