-- What the functions' proofs cite: laws of pairs of pieces.
pub mod PairLaws
