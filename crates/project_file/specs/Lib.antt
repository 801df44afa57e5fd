pub mod Files
pub mod Patterns
pub mod Places
pub mod Projects
pub mod Refusals
pub mod Rows
pub mod RowsOf
