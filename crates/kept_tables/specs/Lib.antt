pub mod Batching
pub mod Tests
pub mod Calls
pub mod Live
pub mod Loading
pub mod Holdings
