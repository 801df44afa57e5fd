mod LineLemmas
mod NumberLemmas
mod Answering
mod Ending
mod Replaying
mod Undoing
pub mod Lemmas
