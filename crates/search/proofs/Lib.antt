-- Laws of a local problem.
pub mod FixedPlaces
pub mod Moves
pub mod FromFirst
