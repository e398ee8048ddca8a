-- Laws of the settings text and of the stream as a whole.
pub mod ReadingLaws
