pub mod Enough
pub mod Sequences
pub mod HoweverPlayed
pub mod Reporting
