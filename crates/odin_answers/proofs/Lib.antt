mod ChangeLemmas
mod EditLemmas
mod SourceLemmas
mod RecordLemmas
mod AnswerLemmas
mod CountLemmas
mod FaultLemmas
mod OnceLemmas
mod OtherLemmas
mod SameLemmas
pub mod Lemmas
