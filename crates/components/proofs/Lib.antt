-- What the function's proof cites: a part that grows by a frontier, the words as a graph whose edges go both ways, and one turn of the loop; then what callers cite
-- that take one component after the other.
pub mod Frontier
pub mod WordGraph
pub mod Turns
pub mod Taking
