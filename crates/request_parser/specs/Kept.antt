-- A parameter more among those that are kept.
use Rattle.std.specs.Prelude.{◌≡◌, ℕ, ◌≤◌, Bool, true, false, List, [], ◌∷◌, ◌++◌, length, take, drop, ⊤}
use Rattle.std.specs.List.{list_any}
use Rattle.std.specs.Ordering.{is_lt}
use Rattle.object_values.specs.declared.nodes.ParamValue.{ParamValue}
use Rattle.meaning_texts.specs.Expressions.{name_cmp, AreKeptAs}

-- The parameter is kept after those that are.
abbrev pub KeepsOne : ParamValue → List ParamValue → List ParamValue → Type 0
KeepsOne p old new = (written : List ParamValue) → AreKeptAs written old → AreKeptAs (written ++ p ∷ []) new

-- All of these are kept after those that are.
abbrev pub KeepsAll : List ParamValue → List ParamValue → List ParamValue → Type 0
KeepsAll more old new = (written : List ParamValue) → AreKeptAs written old → AreKeptAs (written ++ more) new

-- the name of the one is less than that of the other
abbrev pub is_below : ParamValue → ParamValue → Bool
is_below p q = is_lt (name_cmp p.param q.param)

-- no parameter, or first one whose name is greater
abbrev pub BeginsAbove : ParamValue → List ParamValue → Type 0
BeginsAbove p [] = ⊤
BeginsAbove p (q ∷ rest) = is_below p q ≡ true

-- No name before the place is greater, and the one there is.
pub record IsPlaceOf (p : ParamValue) (params : List ParamValue) (place : ℕ) : Type 0 where
  pub within : place ≤ length params
  pub before : list_any (is_below p) (take place params) ≡ false
  pub there : BeginsAbove p (drop place params)
