mod FileLemmas
mod ReadLemmas
mod TreeLemmas
