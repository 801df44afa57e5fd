-- What a call tells of the bytes of a file that it neither writes nor cuts, as a disk tells it.
use Rattle.std.specs.Prelude.{◌≡◌, ◌⊎◌, ◌≤◌, ℕ, IsTrue, List, [], None, length, if◌then◌else◌}
use Rattle.odin_outside.specs.Disk.{Telling, MayLeave, synced_at}

-- a call that changes neither its bytes nor what is pending
pub record DiskStays (old new : Telling) : Type 0 where
  pub follows : new.follows ≡ old.follows
  pub seen : IsTrue old.follows → new.seen ≡ old.seen
  pub pending : IsTrue old.follows → new.pending ≡ old.pending
  pub later : IsTrue old.follows → old.moment ≤ new.moment
  pub nothing_else : IsTrue old.follows → (t : ℕ) (c : List ℕ) → t ≤ old.moment → new.left_since t c → old.left_since t c ⊎ MayLeave new c
  pub keeps : IsTrue old.follows → (t : ℕ) (c : List ℕ) → t ≤ old.moment → old.left_since t c → new.left_since t c

-- nothing stands there: no byte, and nothing pending
pub record IsNothing (file : Telling) : Type 0 where
  pub seen : IsTrue file.follows → file.seen ≡ []
  pub pending : IsTrue file.follows → file.pending ≡ synced_at []

-- the size is that of its bytes
abbrev pub HasSize : Telling → ℕ → Type 0
HasSize file size = IsTrue file.follows → size ≡ length file.seen

-- the place is not after its bytes
abbrev pub IsInside : Telling → ℕ → Type 0
IsInside file at = IsTrue file.follows → at ≤ length file.seen

-- what a disk over it tells: the same, and no work
abbrev pub idle : Telling → Telling
idle file = record file { work = None }

-- the size of a disk over it: that of its bytes, or the number that is known where they aren't told
abbrev pub size_over : Telling → ℕ → ℕ
size_over file size = if file.follows then length file.seen else size

-- what the opening of a file does: it may sync it, and changes nothing else
pub record Syncs (old new : Telling) : Type 0 where
  pub follows : new.follows ≡ old.follows
  pub seen : IsTrue old.follows → new.seen ≡ old.seen
  pub pending : IsTrue old.follows → (new.pending ≡ old.pending) ⊎ (new.pending ≡ synced_at old.seen)
  pub later : IsTrue old.follows → old.moment ≤ new.moment
  pub nothing_else : IsTrue old.follows → (t : ℕ) (c : List ℕ) → t ≤ old.moment → new.left_since t c → old.left_since t c ⊎ MayLeave new c
  pub keeps : IsTrue old.follows → (t : ℕ) (c : List ℕ) → t ≤ old.moment → old.left_since t c → new.left_since t c
