-- What the functions' proofs cite: laws of the pairs of five pieces, and of the assignments that are tried.
pub mod Pairs
pub mod Sums
pub mod Tried
