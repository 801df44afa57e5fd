-- The line that tells how far a build is.
use Rattle.std.specs.Prelude.{ℕ, List, ◌∷◌, ◌++◌, codes, decimal}
use Rattle.shown_texts.specs.Shown.{shown}

-- what begins a command to the terminal
abbrev pub escape : List ℕ → List ℕ
escape command = 27 ∷ 91 ∷ command

-- back to the front of the line, of which nothing stays
abbrev pub cleared : List ℕ
cleared = 13 ∷ escape (codes "K")

-- `[k/n] LABEL`, cut where the terminal ends
abbrev pub progress_line : ℕ → ℕ → List ℕ → List ℕ
progress_line ended started label =
    cleared ++ escape (codes "?7l") ++ codes "[" ++ decimal ended ++ codes "/" ++ decimal started ++ codes "] "
    ++ shown label ++ escape (codes "?7h")
