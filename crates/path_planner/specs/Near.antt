-- The lengths of the shortest paths to a type.
use Rattle.std.specs.Prelude.{◌≡◌, ◌↔◌, ◌+◌, ◌<◌, ◌≤◌, ◌⊎◌, ℕ, true, List, [], Option, Some, None, length, slice_index_or}
use Rattle.meaning_texts.specs.Lists.{IsIn}
use Rattle.meaning_graph.specs.Graphs.{Graph, types}
use Rattle.meaning_graph.specs.Types.{is_a}
use Rattle.meaning_graph.specs.Paths.{Makes, Path}
use Rattle.path_planner.specs.declared.route.Ends.{Ends}
use Rattle.path_planner.specs.Ends.{ends_in, from_to}

-- the distance of a type
abbrev pub near_at : List (Option ℕ) → ℕ → Option ℕ
near_at near a = slice_index_or near a None

-- The distances are those of the shortest paths, where there are any of the length at most.
pub record IsNear (g : Graph) (to level : ℕ) (near : List (Option ℕ)) : Type 0 where
  pub sized : length near ≡ length (types g)
  pub sound : (a n : ℕ) → near_at near a ≡ Some n → (path : List ℕ) × Path g a to path × (length path ≡ n)
  pub least : (a n : ℕ) (path : List ℕ) → near_at near a ≡ Some n → Path g a to path → n ≤ length path
  pub bounded : (a n : ℕ) → near_at near a ≡ Some n → n ≤ level
  pub complete : (a : ℕ) (path : List ℕ) → a < length (types g) → Path g a to path → length path ≤ level → (n : ℕ) × (near_at near a ≡ Some n)

-- just the types at the level stand in front
pub record IsFrontOfLevel (near : List (Option ℕ)) (level : ℕ) (front : List ℕ) : Type 0 where
  pub at : (a : ℕ) → IsIn a front → near_at near a ≡ Some level
  pub has : (a : ℕ) → near_at near a ≡ Some level → IsIn a front

-- The distances are right up to the level, whose types stand in front.
abbrev pub IsAtLevel : Graph → ℕ → ℕ → List (Option ℕ) → List ℕ → Type 0
IsAtLevel g to level near front = IsNear g to level near × IsFrontOfLevel near level front

-- The types of a list that had no distance have this one, and stand in front now. The others are as they were.
pub record Reaches (distance : ℕ) (numbers : List ℕ) (old : List (Option ℕ)) (front : List ℕ) (new : List (Option ℕ)) (next : List ℕ) : Type 0 where
  pub sized : length new ≡ length old
  pub kept : (a n : ℕ) → near_at old a ≡ Some n → near_at new a ≡ Some n
  pub fresh : (a n : ℕ) → near_at new a ≡ Some n → (near_at old a ≡ Some n) ⊎ ((near_at old a ≡ None) × IsIn a numbers × (n ≡ distance))
  pub all : (a : ℕ) → IsIn a numbers → (n : ℕ) × (near_at new a ≡ Some n)
  pub still : (a : ℕ) → IsIn a front → IsIn a next
  pub listed : (a n : ℕ) → near_at old a ≡ None → near_at new a ≡ Some n → IsIn a next
  pub only : (a : ℕ) → IsIn a next → IsIn a front ⊎ (near_at new a ≡ Some distance)

-- The first types, so many of them, are added where they are the one.
abbrev pub AddsBelow : Graph → ℕ → ℕ → List ℕ → List ℕ → Type 0
AddsBelow g of count old new = (a : ℕ) → IsIn a new ↔ (IsIn a old ⊎ ((a < count) × (is_a g a of ≡ true)))

-- All types that are the one are added, and no others.
abbrev pub AddsAllBelow : Graph → ℕ → List ℕ → List ℕ → Type 0
AddsAllBelow g of old new = AddsBelow g of (length (types g)) old new

-- The first makers, so many of them, lead to the type from just these.
pub record LeadBy (g : Graph) (to count : ℕ) (sources : List ℕ) : Type 0 where
  pub sound : (a : ℕ) → IsIn a sources → (a < length (types g)) × (k : ℕ) × Makes g a k to
  pub all : (a k : ℕ) → k < count → a < length (types g) → Makes g a k to → IsIn a sources

-- a maker leads to the type from just these
abbrev pub LeadTo : Graph → ℕ → List ℕ → Type 0
LeadTo g to sources = LeadBy g to (length (ends_in g)) sources

-- Each of the first types, so many of them, has its list.
pub record AreSourcesTo (g : Graph) (count : ℕ) (lists : List (List ℕ)) : Type 0 where
  pub sized : length lists ≡ count
  pub lead : (to : ℕ) → to < count → LeadTo g to (slice_index_or lists to [])

abbrev pub AreSourceLists : Graph → List (List ℕ) → Type 0
AreSourceLists g lists = AreSourcesTo g (length (types g)) lists

-- So many types in front are looked at on the way to the next level.
pub record IsBetween (g : Graph) (to level : ℕ) (front looked : List ℕ) (near : List (Option ℕ)) (next : List ℕ) : Type 0 where
  pub sized : length near ≡ length (types g)
  pub sound : (a n : ℕ) → near_at near a ≡ Some n → (path : List ℕ) × Path g a to path × (length path ≡ n)
  pub least : (a n : ℕ) (path : List ℕ) → near_at near a ≡ Some n → Path g a to path → n ≤ length path
  pub bounded : (a n : ℕ) → near_at near a ≡ Some n → n ≤ level + 1
  pub complete : (a : ℕ) (path : List ℕ) → a < length (types g) → Path g a to path → length path ≤ level → (n : ℕ) × (near_at near a ≡ Some n)
  pub spread : (b a k : ℕ) → IsIn b looked → Makes g a k b → a < length (types g) → (n : ℕ) × (near_at near a ≡ Some n)
  pub here : IsFrontOfLevel near level front
  pub after : IsFrontOfLevel near (level + 1) next

-- The distances are those of the shortest paths, where there are any.
pub record IsAllNear (g : Graph) (to : ℕ) (near : List (Option ℕ)) : Type 0 where
  pub sized : length near ≡ length (types g)
  pub sound : (a n : ℕ) → near_at near a ≡ Some n → (path : List ℕ) × Path g a to path × (length path ≡ n)
  pub least : (a n : ℕ) (path : List ℕ) → near_at near a ≡ Some n → Path g a to path → n ≤ length path
  pub complete : (a : ℕ) (path : List ℕ) → a < length (types g) → Path g a to path → (n : ℕ) × (near_at near a ≡ Some n)

-- What a maker of these ends makes of the type, where that is at the distance.
abbrev pub IsLead : Graph → Ends → List (Option ℕ) → ℕ → ℕ → Option ℕ → Type 0
IsLead g ends near at distance None = (from next : ℕ) → ends ≡ from_to from next → is_a g at from ≡ true → near_at near next ≡ Some distance → ⊥
IsLead g ends near at distance (Some next) = (from : ℕ) × (ends ≡ from_to from next) × (is_a g at from ≡ true) × (near_at near next ≡ Some distance)

-- The maker takes the type, and what it makes is at the distance.
abbrev pub MakesAtDistance : Graph → List (Option ℕ) → ℕ → ℕ → ℕ → ℕ → Type 0
MakesAtDistance g near at distance number next = Makes g at number next × (near_at near next ≡ Some distance)

-- The least of such makers with what it makes, where there is any.
abbrev pub IsNearer : Graph → List (Option ℕ) → ℕ → ℕ → Option (ℕ × ℕ) → Type 0
IsNearer g near at distance None = (number next : ℕ) → MakesAtDistance g near at distance number next → ⊥
IsNearer g near at distance (Some found) = MakesAtDistance g near at distance found.0 found.1 × ((number next : ℕ) → MakesAtDistance g near at distance number next → found.0 ≤ number)
