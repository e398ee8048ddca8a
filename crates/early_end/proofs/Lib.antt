-- Laws of the edges in a local problem, of the library's index, and of where a search ends.
pub mod Times
pub mod Listed
pub mod Ranges
pub mod Index
pub mod Serving
