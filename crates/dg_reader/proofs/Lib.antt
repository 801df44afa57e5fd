mod LexLemmas
mod PlaceLemmas
mod TokenLemmas
mod WalkLemmas
mod StageLemmas
mod ListLemmas
mod DeclLemmas
mod FaultLemmas
mod FileLemmas
mod WriteLemmas
mod RefusalLemmas
pub mod Lemmas
