pub mod Seen
pub mod Walks
pub mod Reads
pub mod Files
pub mod Written
pub mod Laws
