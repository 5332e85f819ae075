pub mod Sheet
pub mod Shows
pub mod ShownFacts
