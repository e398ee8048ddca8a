-- Laws of elements.
pub mod StoredLaws
pub mod CollectLaws
