pub mod Printed
pub mod Played
pub mod HoweverPlayed
