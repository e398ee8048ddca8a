pub mod Removals
pub mod Returning
