-- What the functions' proofs cite, and other crates may: laws of a word's bits, of counts, of what passes a test in rising
-- order, and of sets and matrices held in words. The samples show what the definitions say.
pub mod Words
pub mod Counts
pub mod Rising
pub mod Sets
mod Samples
