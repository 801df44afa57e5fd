-- The work of calls on a disk, all together.
use Rattle.std.specs.Prelude.{◌≡◌, ℕ, ◌+◌, ◌≤◌, Option, Some, None}
use Rattle.odin_outside.specs.Disk.{Work}

-- the work rose by at most so many bytes and calls, where it is told
abbrev pub WorkedWithin : ℕ → ℕ → Option Work → Option Work → Type 0
WorkedWithin bytes calls None new = new ≡ None
WorkedWithin bytes calls (Some old) None = ⊥
WorkedWithin bytes calls (Some old) (Some new) = (new.bytes ≤ old.bytes + bytes) × (new.calls ≤ old.calls + calls)
