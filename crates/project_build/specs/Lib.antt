pub mod Built
pub mod Graphs
pub mod Laws
pub mod Projects
pub mod Statuses
pub mod Writes
