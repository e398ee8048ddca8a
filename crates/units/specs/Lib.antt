pub mod Numbered
pub mod Merged
pub mod Steps
pub mod Noted
