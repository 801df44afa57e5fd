mod KnownLemmas
mod TakenLemmas
mod OkLemmas
