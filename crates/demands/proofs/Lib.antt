-- The demands, by number.
pub mod ResultSizes
pub mod Demand1
pub mod Demand2
