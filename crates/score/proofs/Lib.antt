-- What the functions' proofs cite: mask lines that are read one after the other, and the score of a layer text.
pub mod MaskLines
pub mod TextScores
