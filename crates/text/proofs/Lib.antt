-- Laws of reading a layer text, each stated once.
pub mod HeaderLines
pub mod HandedLayers
