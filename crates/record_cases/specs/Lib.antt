pub mod Layers
pub mod Outcomes
