mod HeldLemmas
mod KnowLemmas
mod StayLemmas
mod NotedLemmas
mod ToldLemmas
mod CallLemmas
mod WayLemmas
mod TurnLemmas
mod AdvanceLemmas
mod LookLemmas
mod EndLemmas
mod FinishLemmas
mod RestLemmas
mod LawLemmas
mod StopLemmas
pub mod Lemmas
