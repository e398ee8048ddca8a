-- Laws of streams, by subject.
pub mod StreamRecords
pub mod StreamReading
pub mod StreamCalls
pub mod StreamCases
pub mod Differences
pub mod Rectangles
