mod PlaceLemmas
mod BlockLemmas
mod TextLemmas
