-- The lines that tell a load session.
use Rattle.std.specs.Prelude.{ℕ, List, [], ◌∷◌, ◌++◌, codes, decimal}
use Rattle.std.specs.List.{flat_map}
use Rattle.meaning_texts.specs.Lines.{with_lf}
use Rattle.meaning_graph.specs.Graphs.{Text}
use Rattle.load_session.specs.declared.loaded.Loaded.{Loaded}

-- numbers, each after a space
abbrev pub spaced : List ℕ → Text
spaced numbers = flat_map (λ number. 32 ∷ decimal number) numbers

-- a line of a word and the numbers after it
abbrev pub counts_line : Text → List ℕ → Text
counts_line word numbers = with_lf (word ++ spaced numbers)

-- The four lines: how many units there were, how many tools each ask started, how long the last object is, and how many calls are kept.
abbrev pub load_lines : ℕ → Loaded → Text
load_lines units loaded =
    counts_line (codes "load") (units ∷ [])
    ++ counts_line (codes "starts") loaded.starts
    ++ counts_line (codes "length") (loaded.length ∷ [])
    ++ counts_line (codes "kept") (loaded.kept ∷ [])
