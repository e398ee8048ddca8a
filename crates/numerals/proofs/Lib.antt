-- What the functions' proofs cite, and other crates may: laws of numbers to base ten.
pub mod Decimal
pub mod Digits
pub mod Cap
