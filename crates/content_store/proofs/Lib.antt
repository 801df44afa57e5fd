mod BodyLemmas
mod DigestLemmas
mod IndexLemmas
mod MarkLemmas
pub mod Lemmas
