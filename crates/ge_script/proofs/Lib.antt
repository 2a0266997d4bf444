pub mod FirstRequest
pub mod RequestEnds
pub mod PieceByPiece
pub mod Steps
pub mod WholeScript
