pub mod Lent
pub mod LentFacts
