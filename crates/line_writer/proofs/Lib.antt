-- What the functions' proofs cite, and other crates may: laws of what is written, and of how long it is.
pub mod Puts
pub mod LineSizes
pub mod Laid
