pub mod Faults
pub mod Places
pub mod Rows
pub mod Spaces
pub mod Shapes
pub mod Tables
pub mod Walks
