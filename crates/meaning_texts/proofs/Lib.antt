mod Members
mod Words
mod Params
mod Pieces
mod Readings
mod Spellings
mod Places
mod Cuts
mod Canonical
mod Spaces
mod GoOn
mod GoneOn
mod Found
mod References
mod Counts
pub mod Lemmas
