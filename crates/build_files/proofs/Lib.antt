mod AnswerLemmas
mod FileLemmas
mod PathLemmas
mod LineLemmas
mod ListedLemmas
mod FoundLemmas
mod MessageLemmas
