mod AddedPlaces
mod Batched
mod Contents
mod CopyLemmas
mod HeadLemmas
mod IndexLemmas
mod InputLemmas
mod Items
mod KeyLemmas
mod Numbers
mod Resolved
pub mod Lemmas
