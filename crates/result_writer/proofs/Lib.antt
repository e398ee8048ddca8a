-- What the functions' proofs cite, and other crates may: laws of the lines of a result.
pub mod ResultLines
