-- Laws of the first assignment.
pub mod Any
pub mod Stored
pub mod Cheapest
pub mod Firsts
