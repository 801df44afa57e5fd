-- The work of calls on a disk, one after another.
use Rattle.std.proofs.Common.{ℕ, ◌+◌, ◌*◌, ◌/◌, ◌^◌, ◌≤◌, Option, Some, None, refl, arith}
use Rattle.std.proofs.Math.Nat.{min-le_left}
use Rattle.odin_outside.specs.Disk.{Work}
use Rattle.odin_outside.specs.Worked.{WorkedWithin}
use Rattle.odin_journal.specs.Pieces.{most_reads}

-- no call is no work
pub no_work : (work : Option Work) → WorkedWithin 0 0 work work
no_work None = refl
no_work (Some work) = (omega arith, omega arith)

-- a bound may be wider
pub more_work : (bytes calls some most : ℕ) (old new : Option Work) → bytes ≤ some → calls ≤ most → WorkedWithin bytes calls old new → WorkedWithin some most old new
more_work bytes calls some most None new le also within = within
more_work bytes calls some most (Some old) None le also within = within
more_work bytes calls some most (Some old) (Some new) le also within = (omega (arith, within.0), omega (arith, within.1))

-- the work of calls that follow each other is the sum of theirs
pub add_work : (bytes calls more most : ℕ) (old mid new : Option Work) → WorkedWithin bytes calls old mid → WorkedWithin more most mid new → WorkedWithin (bytes + more) (calls + most) old new
add_work bytes calls more most None None new first second = second
add_work bytes calls more most None (Some mid) new first second = let no : ⊥ = cc in absurd no
add_work bytes calls more most (Some old) None new first second = absurd first
add_work bytes calls more most (Some old) (Some mid) None first second = second
add_work bytes calls more most (Some old) (Some mid) (Some new) first second = (omega (arith, first.0, second.0), omega (arith, first.1, second.1))

-- records are read by two calls for each and two more at most
pub few_reads : (bytes calls records size : ℕ) (old new : Option Work) → WorkedWithin bytes (calls + most_reads records size) old new → WorkedWithin bytes (calls + 2 + 2 * records) old new
few_reads bytes calls records size old new within =
    more_work bytes (calls + most_reads records size) bytes (calls + 2 + 2 * records) old new (omega arith) (omega (arith, min-le_left (2 * records + 1) (2 * (size / 2 ^ 20 + 1)))) within
