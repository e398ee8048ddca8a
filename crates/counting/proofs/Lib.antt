-- What the functions' proofs cite, and other crates may: laws of a row of edges, and of the score of adjacency words.
pub mod RowLaws
pub mod ScoreLaws
