mod Found
mod Told
mod Kept
mod Reaching
mod Asked
mod Sorted
mod Scanned
mod TellingLaws
mod Falling
pub mod Lemmas
