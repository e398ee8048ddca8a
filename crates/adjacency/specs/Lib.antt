pub mod Drawn
pub mod Kinds
pub mod Reaches
pub mod Adjacency
pub mod UnitGraph
pub mod Members
