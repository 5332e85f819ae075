pub mod PlaceFacts
pub mod Table
