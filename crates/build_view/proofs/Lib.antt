mod Added
mod EscapedLemmas
mod PlaceLemmas
