pub mod Sequences
pub mod Decoding
pub mod Words
