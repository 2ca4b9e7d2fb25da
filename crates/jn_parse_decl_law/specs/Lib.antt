pub mod Runs
pub mod Built
pub mod TreePieces
pub mod PieceReader
pub mod Progress
