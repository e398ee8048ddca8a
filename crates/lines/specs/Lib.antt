pub mod ReadLines
pub mod Readers
