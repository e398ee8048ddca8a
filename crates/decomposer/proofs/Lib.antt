-- Laws of the run: the adjacency words of a layer, the stages on units, and all together.
pub mod LayerWords
pub mod StageLaws
pub mod Spreading
pub mod RunLaws
pub mod LayerLaws
