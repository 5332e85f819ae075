pub mod Widening
pub mod Sane
pub mod Room
pub mod Going
pub mod Laying
