mod EndLemmas
mod NearLemmas
mod RouteLemmas
mod DirectLemmas
mod SourceLemmas
mod TableLemmas
mod TakerLemmas
