pub mod Tables
pub mod Finite
pub mod Seen
