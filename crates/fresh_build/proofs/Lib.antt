mod MapLemmas
mod EditLemmas
mod ListLemmas
mod SetLemmas
mod BuildLemmas
