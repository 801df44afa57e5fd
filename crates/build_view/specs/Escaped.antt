-- A text on a page of HTML.
use Rattle.std.specs.Prelude.{ℕ, ◌==◌, List, [], ◌∷◌, codes, if◌then◌else◌}
use Rattle.std.specs.List.{flat_map}
use Rattle.shown_texts.specs.Shown.{shown}

-- a byte that is markup is named by an entity
unfoldable pub entity : ℕ → List ℕ
entity b =
    if b == 34 then codes "&quot;"
    else if b == 38 then codes "&amp;"
    else if b == 39 then codes "&#39;"
    else if b == 60 then codes "&lt;"
    else if b == 62 then codes "&gt;"
    else b ∷ []

abbrev pub escaped : List ℕ → List ℕ
escaped text = flat_map entity text

-- a text as a person is shown it, in its place on the page
abbrev pub words : List ℕ → List ℕ
words text = escaped (shown text)
