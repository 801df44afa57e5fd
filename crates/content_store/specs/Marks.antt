-- How numbers are found by marks: a mark leads to the first thing that has it, and the further ones go by their next marks.
use Rattle.std.specs.Prelude.{◌≡◌, ◌⊎◌, ◌-◌, ◌%◌, ◌^◌, ℕ, min, cond, List, [], ◌∷◌, Option, Some, None, is_some, Contains, nat_eq, vec_capacity, vec_len}
use Rattle.std.specs.Cmp.Lexicographic.{pointwise}
use Rattle.std.specs.HashMap.{get, spare}
use Rattle.content_store.specs.declared.marks.Mark.{Mark}
use Rattle.content_store.specs.declared.marks.Mark.TheVariants.{Quick, Digest}
use Rattle.content_store.specs.declared.marks.Marks.{Marks}

-- the number that a mark leads to, of a quick hash by its low 32 bits
abbrev pub leads : Marks → Mark → Option ℕ
leads table (Quick hash) = get nat_eq table.quick (hash % 2 ^ 32)
leads table (Digest digest) = get (pointwise nat_eq) table.digests digest

-- The first mark leads to the number, or to another one, and then the further marks do; where there are none, it clashes.
abbrev pub IsLed : (Mark → Option ℕ) → List ℕ → List Mark → ℕ → Type 0
IsLed leads clashing [] i = Contains clashing i
IsLed leads clashing (mark ∷ marks) i = (j : ℕ) × (leads mark ≡ Some j) × ((i ≡ j) ⊎ IsLed leads clashing marks i)

-- what has these marks is found by its number
abbrev pub Finds : Marks → List Mark → ℕ → Type 0
Finds table marks i = IsLed (leads table) table.clashing.items marks i

-- what was found is found
abbrev pub KeepsNumbers : Marks → Marks → Type 0
KeepsNumbers old new = (marks : List Mark) (i : ℕ) → Finds old marks i → Finds new marks i

-- the first mark that leads nowhere
abbrev pub first_free : (Mark → Option ℕ) → List Mark → Option Mark
first_free leads [] = None
first_free leads (mark ∷ marks) = cond (is_some (leads mark)) (first_free leads marks) (Some mark)

-- Each thing has one number, and is found there by its marks.
pub record IsIndex {Thing : Type 0} (at : ℕ → Option Thing) (marks_of : Thing → List Mark) (table : Marks) : Type 0 where
  pub once : (i j : ℕ) (thing : Thing) → at i ≡ Some thing → at j ≡ Some thing → i ≡ j
  pub found : (i : ℕ) (thing : Thing) → at i ≡ Some thing → Finds table (marks_of thing) i

-- for how many more there is room
abbrev pub room_of : Marks → ℕ
room_of table = min (spare table.quick) (min (spare table.digests) (vec_capacity table.clashing - vec_len table.clashing))
