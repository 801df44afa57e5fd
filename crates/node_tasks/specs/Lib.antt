pub mod Tasks
pub mod Reading
pub mod Settling
pub mod Calling
pub mod Needed
pub mod Ahead
