pub mod Face
pub mod Drills
pub mod Mending
pub mod InPieces
pub mod InPiecesFacts
