mod BuildLemmas
mod LawLemmas
mod ProjectLemmas
mod RestLemmas
mod WriteLemmas
