mod BitLemmas
mod ClosingLemmas
mod ContextLemmas
mod DoubleLemmas
mod FaultLemmas
mod KindLemmas
mod LoopLemmas
mod PlaceLemmas
mod SpaceLemmas
mod SuffixLemmas
mod TableLemmas
mod TwiceLemmas
mod WalkLemmas
pub mod Lemmas
