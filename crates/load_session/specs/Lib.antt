pub mod Graph
pub mod Session
pub mod Room
pub mod Served
pub mod Moments
pub mod Loads
