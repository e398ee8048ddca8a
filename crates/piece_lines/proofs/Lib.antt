-- Laws of reading lines of pieces, each stated once.
pub mod StoredPieces
pub mod PieceLines
pub mod FixedReading
