-- Laws of lines, each stated once.
pub mod Parts
pub mod NumberParts
pub mod Written
pub mod Splits
pub mod LineForm
pub mod GoodLines
pub mod ReaderLaws
