-- Steps of the look for a path that stands there twice.
use Rattle.std.proofs.Common.{◌≡◌, ℕ, Bool, true, false, List, ◌∷◌, length, Some, None, if◌then◌else◌, bytes_eq, ap, ◌∙◌}
use Rattle.std.specs.List.{list_any}
use Rattle.std.proofs.lemmas.List.{nil_from_length}
use Rattle.project_folder.specs.Written.{double_among}

pub found_here : (paths behind : List (List ℕ)) (path : List ℕ) → paths ≡ path ∷ behind → list_any (λ other. bytes_eq other path) behind ≡ true
    → double_among paths ≡ Some path
found_here paths behind path is twice = ap double_among is ∙ ap (λ (b : Bool). if b then Some path else double_among behind) twice

pub not_here : (paths behind : List (List ℕ)) (path : List ℕ) → paths ≡ path ∷ behind → list_any (λ other. bytes_eq other path) behind ≡ false
    → double_among paths ≡ double_among behind
not_here paths behind path is once = ap double_among is ∙ ap (λ (b : Bool). if b then Some path else double_among behind) once

pub none_left : (paths : List (List ℕ)) → length paths ≡ 0 → double_among paths ≡ None
none_left paths none = ap double_among (nil_from_length paths none)
