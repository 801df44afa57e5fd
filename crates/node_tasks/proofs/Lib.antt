mod StepLemmas
mod CallLemmas
mod ReadLemmas
mod TaskLemmas
mod NeedLemmas
mod NameLemmas
mod ListedLemmas
mod AheadLemmas
mod SettleLemmas
pub mod Lemmas
