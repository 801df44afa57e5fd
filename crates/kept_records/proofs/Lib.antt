mod RecordLemmas
mod PlaceLemmas
pub mod Lemmas
