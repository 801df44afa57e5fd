pub mod Command
pub mod Listing
pub mod Places
pub mod Targets
pub mod Written
