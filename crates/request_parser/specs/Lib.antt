pub mod Runs
pub mod Kept
pub mod Reads
pub mod Found
pub mod Refused
pub mod Written
