pub mod Answers
pub mod Formed
pub mod Over
pub mod WellFormed
