-- Laws of records.
pub mod RecordLaws
