pub mod Branch
pub mod Component
