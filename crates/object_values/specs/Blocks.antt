-- Pairs in blocks: all of them in a row, and the block to which a name belongs.
use Rattle.std.specs.Prelude.{◌≡◌, ℕ, zero, suc, ◌-◌, ◌<◌, ◌≤◌, ◌^◌, T, List, [], ◌∷◌, ◌++◌, Option, IfSome, length, min, slice_index_or, slice_set}
use Rattle.std.specs.List.{remove}
use Rattle.std.specs.Ordering.{nat_cmp}
use Rattle.std.specs.Option.{option_to_list}
use Rattle.std.specs.Cmp.Lexicographic.{slice_cmp}
use Rattle.std.specs.declared.cmp.Ordering.TheVariants.{Greater}
use Rattle.std.specs.FinMap as map
use Rattle.std.specs.FinMap.Entries.{below_all}
use Rattle.object_values.specs.Texts.{Text}
use Rattle.object_values.specs.Places.{Pairs}

-- the pairs of all blocks
abbrev pub joined : List Pairs → Pairs
joined [] = []
joined (block ∷ blocks) = block ++ joined blocks

-- no block is empty
abbrev pub AreFilled : List Pairs → Type 0
AreFilled [] = Unit {0}
AreFilled (block ∷ blocks) = (1 ≤ length block) × AreFilled blocks

-- the text at a place of a block
abbrev pub text_at : List Pairs → ℕ → ℕ → Text
text_at blocks at place =
    let pair = slice_index_or (slice_index_or blocks at []) place ([], []) in pair.1

-- the pairs of all blocks, where the one at a place of a block is taken out
abbrev pub joined_without : List Pairs → ℕ → ℕ → Pairs
joined_without blocks at place =
    joined (slice_set blocks at (remove (slice_index_or blocks at []) place))

abbrev pub AreSorted : List Pairs → Type 0
AreSorted blocks = T (map.is_sorted (slice_cmp nat_cmp) (joined blocks))

-- a block that is kept for later has no pairs
abbrev pub IsSpare : Option Pairs → Type 0
IsSpare spare = IfSome spare (λ block. block ≡ [])

-- The blocks hold so many pairs, in the order of the names.
pub record AreBlocks (blocks : List Pairs) (spare : Option Pairs) (count : ℕ) : Type 0 where
  pub sorted : AreSorted blocks
  pub filled : AreFilled blocks
  pub counted : count ≡ length (joined blocks)
  pub spared : IsSpare spare

-- how many names more have room: one where a block is kept for it, the list of blocks has room, and the count can grow
abbrev pub room_left : ℕ → Option Pairs → ℕ → ℕ
room_left places spare count = min places (min (length (option_to_list spare)) (2 ^ 64 - 1 - count))

-- the first name of a block
abbrev pub first_of : Pairs → Text
first_of [] = []
first_of (pair ∷ pairs) = pair.0

-- all names are less than this one
abbrev pub AreLess : Pairs → Text → Type 0
AreLess [] name = Unit {0}
AreLess (pair ∷ pairs) name = (slice_cmp nat_cmp name pair.0 ≡ Greater) × AreLess pairs name

-- the blocks before have lesser names alone, and those after it greater ones
abbrev pub Belongs : List Pairs → Text → ℕ → Type 0
Belongs [] name at = ⊥
Belongs (block ∷ blocks) name zero = T (below_all (slice_cmp nat_cmp) name (joined blocks))
Belongs (block ∷ blocks) name (suc at) = AreLess block name × Belongs blocks name at

-- There is such a block, and the name belongs into it.
pub record IsBlockOf (blocks : List Pairs) (name : Text) (at : ℕ) : Type 0 where
  pub in_range : at < length blocks
  pub belongs : Belongs blocks name at
