-- Laws of the layer text, by subject.
pub mod WrittenLines
pub mod WrittenPieces
pub mod FixedLines
pub mod LayerSizes
pub mod WrittenLayers
