pub mod Local
pub mod Parts
pub mod Seats
pub mod LaidOut
