-- The marks of bodies.
use Rattle.std.specs.Prelude.{◌-◌, ℕ, List, [], ◌∷◌, ◌++◌, length, take, drop}
use Rattle.std.specs.List.{fold}
use Rattle.std.specs.Hash as fed
use Rattle.std.specs.Hash.{HashWrites}
use Rattle.std.specs.Hash.FoldHasher as folding
use Rattle.content_store.specs.declared.marks.Mark.{Mark}
use Rattle.content_store.specs.declared.marks.Mark.TheVariants.{Quick, Digest}

-- the length, and the first and the last 64 bytes
abbrev pub ends_fed : List ℕ → HashWrites
ends_fed body = fed.u64 (length body) ++ take 64 body ∷ drop (length body - 64) body ∷ []

unfoldable pub hash_of_ends : List ℕ → ℕ
hash_of_ends body = folding.finish (fold folding.write folding.initial (ends_fed body))

unfoldable pub hash_of : List ℕ → ℕ
hash_of body = folding.finish (folding.write folding.initial body)

-- from the cheapest on
abbrev pub marks_of : (List ℕ → List ℕ) → List ℕ → List Mark
marks_of key_of body = Quick (hash_of_ends body) ∷ Quick (hash_of body) ∷ Digest (key_of body) ∷ []
