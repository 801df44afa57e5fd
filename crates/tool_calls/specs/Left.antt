-- The files that a job left, by their names.
use Rattle.std.specs.Prelude.{◌≡◌, ℕ, List, option_map, nat_eq}
use Rattle.std.specs.Borrow.{Bor}
use Rattle.std.specs.Cmp.Lexicographic.{pointwise}
use Rattle.std.specs.HashMap.{HashMap, get}
use Rattle.object_values.specs.declared.jobs.FileBody.{FileBody}
use Rattle.meaning_calls.specs.Outcomes.{file_in}

-- each name has the body of the first file of that name
abbrev pub HoldsFirst : {S : Type 0} → HashMap (Bor (List ℕ)) (Bor (List ℕ)) S → List FileBody → Type 0
HoldsFirst bodies files = (name : Bor (List ℕ)) → option_map (λ (body : Bor (List ℕ)). body.now) (get (λ x y. pointwise nat_eq x.now y.now) bodies name) ≡ file_in name.now files
