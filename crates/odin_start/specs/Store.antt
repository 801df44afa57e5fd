-- Which words want a store.
use Rattle.std.specs.Prelude.{ℕ, List}
use Rattle.odin_words.specs.Asked.{AsksFor, Serve}

-- the words ask for the file of a graph
abbrev pub AskForGraph : List (List ℕ) → Type 0
AskForGraph words = (name : List ℕ) × (jobs : ℕ) × AsksFor words (Serve name) jobs
