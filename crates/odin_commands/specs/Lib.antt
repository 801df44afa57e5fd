pub mod Arguments
pub mod Writing
pub mod Reading
pub mod Verbs
