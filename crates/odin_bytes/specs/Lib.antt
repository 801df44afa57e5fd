pub mod FieldLemmas
pub mod Fields
pub mod Names
pub mod Spellings
pub mod Laws
pub mod Words
