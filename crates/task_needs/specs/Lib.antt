pub mod Counting
pub mod TakingOver
