pub mod PieceCores
pub mod UsedClauses
pub mod WrittenCores
pub mod WrittenLines
pub mod WrittenPieces
