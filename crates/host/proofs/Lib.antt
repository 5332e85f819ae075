pub mod InPieces
pub mod ListStays
pub mod InPiecesFacts
