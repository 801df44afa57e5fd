pub mod Edits
pub mod Changes
pub mod Answers
pub mod Faults
pub mod Laws
pub mod Planned
pub mod Replied
