-- Laws of what is written, each stated once.
pub mod LayerLines
