pub mod Facts
pub mod Loaded
pub mod Numbered
