-- What the functions' proofs cite.
pub mod TwoPieces
