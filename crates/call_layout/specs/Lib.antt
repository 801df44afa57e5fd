pub mod Told
pub mod Labels
pub mod Layout
pub mod Laws
pub mod Places
pub mod Faults
pub mod Command
