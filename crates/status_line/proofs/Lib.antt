pub mod Places
pub mod Statuses
