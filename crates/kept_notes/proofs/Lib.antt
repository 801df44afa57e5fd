mod FactLemmas
mod LoadedLemmas
mod NotedLemmas
mod NumberLemmas
pub mod Lemmas
