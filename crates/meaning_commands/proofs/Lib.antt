mod Words
mod Forms
mod Exact
mod ItemLemmas
mod ToldLemmas
mod StreamLemmas
mod EndLemmas
pub mod Lemmas
