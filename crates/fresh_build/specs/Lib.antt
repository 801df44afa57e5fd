pub mod Listed
pub mod Edits
pub mod Sets
pub mod Built
pub mod Laws
