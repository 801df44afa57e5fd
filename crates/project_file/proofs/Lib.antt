mod RowLemmas
mod StepLemmas
mod ReadLemmas
pub mod Lemmas
