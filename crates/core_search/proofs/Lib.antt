-- Laws of the search of the core.
pub mod OneComponent
pub mod CoreLaws
