-- A trail: changes that are kept on a disk, one after another. An image stands for what is kept after some first changes, none skipped and none in part.
use Rattle.std.specs.Prelude.{◌⊎◌, ℕ, ◌≤◌, List, [], ◌∷◌, ◌++◌, length, take}
use Rattle.odin_outside.specs.Disk.{Telling, LeavesOnly, MayLeave}

-- What is kept; a change of it; what an image stands for; and a store at rest over its disk, as between two calls.
pub record Keeping (Kept Change Store : Type 0) : Type 1 where
  pub apply : Change → Kept → Kept
  pub StandsFor : Kept → List ℕ → Type 0
  pub Rests : Telling → Store → Kept → Type 0

module _ {Kept Change Store : Type 0} (m : Keeping Kept Change Store) where
  abbrev pub after_changes : List Change → Kept → Kept
  after_changes [] kept = kept
  after_changes (change ∷ changes) kept = after_changes changes (m.apply change kept)

  -- the image stands for what is kept after the first k of these changes, and k is at least so many
  pub record IsPrefix (first : Kept) (least : ℕ) (changes : List Change) (image : List ℕ) : Type 0 where
    pub k : ℕ
    pub at_least : least ≤ k
    pub at_most : k ≤ length changes
    pub stands : m.StandsFor (after_changes (take k changes) first) image

  -- Between two calls: the store rests on what is kept after these changes, and a crash since the start leaves some first ones.
  pub record Trail (first : Kept) (start : Telling) (changes : List Change) (store : Store) (now : Telling) : Type 0 where
    pub rests : m.Rests now store (after_changes changes first)
    pub crash : LeavesOnly start now (IsPrefix first 0 changes)

  -- Where it stops: a crash since the start leaves some first changes, and one that comes now all that were acknowledged.
  pub record LeavesPrefix (first : Kept) (start : Telling) (acknowledged furthest : List Change) (now : Telling) : Type 0 where
    pub crash : LeavesOnly start now (IsPrefix first 0 furthest)
    pub durable : (image : List ℕ) → MayLeave now image → IsPrefix first (length acknowledged) furthest image

  -- ---- one call

  -- The call keeps a change, whatever was kept before.
  pub record KeepsChange (change : Change) (old : Telling) (store : Store) (new : Telling) (next : Store) : Type 0 where
    pub rests : (kept : Kept) → m.Rests old store kept → m.Rests new next (m.apply change kept)
    pub crash : (kept : Kept) → m.Rests old store kept → LeavesOnly old new (λ image. m.StandsFor kept image ⊎ m.StandsFor (m.apply change kept) image)

  -- The call stops within a change: a crash leaves what was kept before, or that with the change.
  abbrev pub StopsIn : Change → Telling → Store → Telling → Type 0
  StopsIn change old store new =
      (kept : Kept) → m.Rests old store kept → LeavesOnly old new (λ image. m.StandsFor kept image ⊎ m.StandsFor (m.apply change kept) image)

-- ---- calls that follow each other

module _ {Kept Change Store Disk : Type 0} (m : Keeping Kept Change Store) (told : Disk → Telling) where
  -- calls that keep these changes, whatever came before
  abbrev pub ExtendsTrail : List Change → Disk → Store → Disk → Store → Type 0
  ExtendsTrail changes old store new next =
      (first : Kept) (start : Disk) (before : List Change) → Trail m first (told start) before store (told old) → Trail m first (told start) (before ++ changes) next (told new)

  -- and that stop, with these or some first of them left
  abbrev pub StopsWithin : List Change → Disk → Store → Disk → Type 0
  StopsWithin changes old store new =
      (first : Kept) (start : Disk) (before : List Change) → Trail m first (told start) before store (told old) → LeavesPrefix m first (told start) before (before ++ changes) (told new)
