mod CutLemmas
mod EscapeLemmas
mod LineEnds
mod LineLemmas
mod NameLemmas
mod NumberLemmas
mod WordLemmas
pub mod Lemmas
