pub mod Views
pub mod Capped
pub mod Fitting
