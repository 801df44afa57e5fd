-- Walks along lists of numbers: from each number the list at its place leads on.
use Rattle.std.specs.Prelude.{◌≡◌, ◌↔◌, ◌<◌, ℕ, ◌+◌, ◌⊎◌, IsTrue, Bool, true, false, List, [], ◌∷◌, length, slice_index_or}
use Rattle.meaning_texts.specs.Lists.{IsIn}
use Rattle.type_graph.specs.declared.walk.Walk.{Walk}

-- the number is marked
abbrev pub IsMarked : List Bool → ℕ → Type 0
IsMarked marked number = slice_index_or marked number false ≡ true

-- how many numbers are not
abbrev pub unmarked : List Bool → ℕ
unmarked [] = 0
unmarked (true ∷ marked) = unmarked marked
unmarked (false ∷ marked) = 1 + unmarked marked

-- all of these numbers are below a limit
abbrev pub AreBelow : ℕ → List ℕ → Type 0
AreBelow limit numbers = (number : ℕ) → IsIn number numbers → number < limit

-- each list has numbers of lists alone
abbrev pub AreAllBelow : List (List ℕ) → Type 0
AreAllBelow lists = (number : ℕ) → AreBelow (length lists) (slice_index_or lists number [])

-- What a walk has marked, and what it has yet to look at.
pub record WalkView : Type 0 where
  pub marked : List Bool
  pub todo : List ℕ

abbrev pub walk_view : Walk → WalkView
walk_view walk = record { marked = walk.marked.items; todo = walk.todo.items }

-- The numbers are marked, and those that were not stand in the list of what is to do.
pub record Marks (old : WalkView) (numbers : List ℕ) (new : WalkView) : Type 0 where
  pub sized : length new.marked ≡ length old.marked
  pub kept : (n : ℕ) → IsMarked old.marked n → IsMarked new.marked n
  pub added : (n : ℕ) → IsIn n numbers → IsMarked new.marked n
  pub only : (n : ℕ) → IsMarked new.marked n → IsMarked old.marked n ⊎ IsIn n numbers
  pub still : (n : ℕ) → IsIn n old.todo → IsIn n new.todo
  pub listed : (n : ℕ) → IsMarked new.marked n → IsMarked old.marked n ⊎ IsIn n new.todo
  pub within : (n : ℕ) → IsIn n new.todo → IsIn n old.todo ⊎ IsMarked new.marked n
  pub work : unmarked new.marked + length new.todo ≡ unmarked old.marked + length old.todo

-- one number leads to another by the lists: none, one or more
pub data Leads (lists : List (List ℕ)) : ℕ → ℕ → Type 0 where
  here : (a : ℕ) → Leads lists a a
  over : (a b c : ℕ) → IsIn b (slice_index_or lists a []) → Leads lists b c → Leads lists a c

-- one of the starts leads to the number
abbrev pub IsReachedFrom : List (List ℕ) → List ℕ → ℕ → Type 0
IsReachedFrom lists starts number = (start : ℕ) × IsIn start starts × Leads lists start number

-- The row marks just the numbers that are reached.
pub record IsRowReached (lists : List (List ℕ)) (starts : List ℕ) (row : List Bool) : Type 0 where
  pub sized : length row ≡ length lists
  pub right : (number : ℕ) → IsTrue (slice_index_or row number false) ↔ IsReachedFrom lists starts number
