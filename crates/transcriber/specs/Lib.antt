pub mod Places
pub mod Sizes
pub mod Transcribes
pub mod Storing
