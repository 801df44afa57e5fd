mod Written
mod Behind
mod TextLemmas
mod ItemLemmas
mod ObjectLemmas
mod VerbLemmas
mod PlaceLemmas
pub mod Lemmas
