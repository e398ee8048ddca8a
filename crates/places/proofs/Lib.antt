-- Laws of the pieces of units, of lists of neighbours, and of the order of places.
pub mod Members
pub mod Seating
pub mod Appending
pub mod Counting
pub mod Laying
pub mod LocalCost
pub mod Turns
