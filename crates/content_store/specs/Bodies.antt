-- Lists of bodies, each numbered by its place.
use Rattle.std.specs.Prelude.{◌≡◌, ℕ, suc, cond, List, [], ◌∷◌, ◌++◌, Option, Some, None, is_some, option_map, slice_get, nat_eq}
use Rattle.std.specs.Cmp.Lexicographic.{pointwise}

abbrev pub Bodies : Type 0
Bodies = List (List ℕ)

-- the first place at which the body stands
abbrev pub place_of_body : List ℕ → Bodies → Option ℕ
place_of_body body [] = None
place_of_body body (b ∷ bodies) =
    cond (pointwise nat_eq body b) (Some 0) (option_map suc (place_of_body body bodies))

-- with the body after the others, where it stands nowhere
abbrev pub with_body : List ℕ → Bodies → Bodies
with_body body bodies = cond (is_some (place_of_body body bodies)) bodies (bodies ++ body ∷ [])

-- Each body stands at one place.
abbrev pub EachBodyOnce : Bodies → Type 0
EachBodyOnce bodies =
    (i j : ℕ) (body : List ℕ) → slice_get bodies i ≡ Some body → slice_get bodies j ≡ Some body → i ≡ j
