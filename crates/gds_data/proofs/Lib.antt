-- Laws of the data of records.
pub mod WordLaws
pub mod SignedWords
pub mod UnitLaws
pub mod RectangleLaws
pub mod ShapeLaws
