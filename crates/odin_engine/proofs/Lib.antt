mod AskLemmas
mod LookingLemmas
mod AskLawLemmas
mod AskedLemmas
mod EngineLemmas
mod StoreForLemmas
