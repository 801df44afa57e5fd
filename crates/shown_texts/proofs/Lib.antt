pub mod ShownLemmas
mod CharacterLemmas
