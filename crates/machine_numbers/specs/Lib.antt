pub mod Fields
pub mod LosesNothing
pub mod Formed
pub mod Views
