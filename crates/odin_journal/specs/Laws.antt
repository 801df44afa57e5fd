-- What the laws of trails say.
use Rattle.std.specs.Prelude.{◌≡◌, ℕ, ◌+◌, ◌≤◌, List, [], ◌∷◌, ◌++◌, Option}
use Rattle.odin_outside.specs.Disk.{Telling, Work, LeavesOnly, MayLeave}
use Rattle.odin_outside.specs.Worked.{WorkedWithin}
use Rattle.odin_journal.specs.Trails.{Keeping, Trail, LeavesPrefix, KeepsChange, StopsIn, ExtendsTrail, StopsWithin}

module _ {Kept Change Store Disk : Type 0} (m : Keeping Kept Change Store) (told : Disk → Telling) where
  -- Where a trail begins: with an opened store; and what is left where none was opened.
  pub record TrailsBegin : Type 0 where
    pub opened : (first : Kept) (start now : Disk) (store : Store) → m.Rests (told now) store first → LeavesOnly (told start) (told now) (m.StandsFor first) → Trail m first (told start) [] store (told now)
    pub unopened : (first : Kept) (start now : Disk) → LeavesOnly (told start) (told now) (m.StandsFor first) → LeavesPrefix m first (told start) [] [] (told now)

  -- Calls that keep changes follow each other as one, and where the last one stops, so do they.
  pub record TrailsGrow : Type 0 where
    pub one : (change : Change) (old new : Disk) (store next : Store) → KeepsChange m change (told old) store (told new) next → ExtendsTrail m told (change ∷ []) old store new next
    pub stop : (change : Change) (old new : Disk) (store : Store) → StopsIn m change (told old) store (told new) → StopsWithin m told (change ∷ []) old store new
    pub none : (old new : Disk) (store next : Store) → new ≡ old → ((kept : Kept) → m.Rests (told old) store kept → m.Rests (told old) next kept) → ExtendsTrail m told [] old store new next
    pub behind : (some more : List Change) (old mid new : Disk) (store stored next : Store)
        → ExtendsTrail m told some old store mid stored → ExtendsTrail m told more mid stored new next → ExtendsTrail m told (some ++ more) old store new next
    pub stop_behind : (some more : List Change) (old mid new : Disk) (store stored : Store)
        → ExtendsTrail m told some old store mid stored → StopsWithin m told more mid stored new → StopsWithin m told (some ++ more) old store new

  -- A trail can be left at any moment, with all that is in it acknowledged, or less; and a longer one may have been meant.
  pub record TrailsStop : Type 0 where
    pub left : (changes : List Change) (old new : Disk) (store next : Store)
        → ((kept : Kept) → m.Rests (told new) next kept → (image : List ℕ) → MayLeave (told new) image → m.StandsFor kept image)
        → ExtendsTrail m told changes old store new next → StopsWithin m told changes old store new
    pub longer : (changes more : List Change) (old new : Disk) (store : Store) → StopsWithin m told changes old store new → StopsWithin m told (changes ++ more) old store new
    pub less : (first : Kept) (start now : Disk) (acknowledged more furthest : List Change) → LeavesPrefix m first (told start) (acknowledged ++ more) furthest (told now) → LeavesPrefix m first (told start) acknowledged furthest (told now)

-- The work of calls that follow each other is the sum of theirs; no call is no work, and a bound may be wider.
pub record WorkAdds : Type 0 where
  pub adds : (bytes calls more most : ℕ) (old mid new : Option Work) → WorkedWithin bytes calls old mid → WorkedWithin more most mid new → WorkedWithin (bytes + more) (calls + most) old new
  pub none : (work : Option Work) → WorkedWithin 0 0 work work
  pub wider : (bytes calls some most : ℕ) (old new : Option Work) → bytes ≤ some → calls ≤ most → WorkedWithin bytes calls old new → WorkedWithin some most old new
