pub mod Masks
pub mod Texts
