-- The place of a name among pairs that are sorted by their names.
use Rattle.std.specs.Prelude.{◌≡◌, ℕ, ◌<◌, ◌≤◌, List, [], length, slice_index_or}
use Rattle.std.specs.Ordering.{nat_cmp}
use Rattle.std.specs.Cmp.Lexicographic.{slice_cmp}
use Rattle.std.specs.declared.cmp.Ordering.{Ordering}
use Rattle.std.specs.declared.cmp.Ordering.TheVariants.{Less, Equal, Greater}
use Rattle.object_values.specs.Texts.{Text}

-- names with their texts
abbrev pub Pairs : Type 0
Pairs = List (Text × Text)

-- how the name at a place compares with a name
abbrev pub compared : Pairs → Text → ℕ → Ordering
compared pairs name place = let pair = slice_index_or pairs place ([], []) in slice_cmp nat_cmp pair.0 name

-- the pair at a place has the name
pub record IsAt (pairs : Pairs) (name : Text) (place : ℕ) : Type 0 where
  pub in_range : place < length pairs
  pub has_name : compared pairs name place ≡ Equal

-- the name would go to a place: before it are lesser names, and from it on greater ones
pub record IsGap (pairs : Pairs) (name : Text) (place : ℕ) : Type 0 where
  pub in_range : place ≤ length pairs
  pub less_before : (i : ℕ) → i < place → compared pairs name i ≡ Less
  pub greater_after : (i : ℕ) → place ≤ i → i < length pairs → compared pairs name i ≡ Greater
