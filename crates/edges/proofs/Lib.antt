-- What the functions' proofs cite: squares of distances.
pub mod Squares
