-- What is known of an input in memory.
use Rattle.std.specs.Prelude.{ℕ, List, length, drop, min}
use Rattle.odin_fakes.specs.declared.plan.Failing.{Failing}
use Rattle.odin_fakes.specs.Plan.{called, failed}

-- the bytes that are left, and how many are given at most at once
pub record Input : Type 0 where
  pub left : List ℕ
  pub piece : ℕ

-- after so many bytes were given
abbrev pub input_after : ℕ → Input → Input
input_after count input = record input { left = drop count input.left }

-- how many bytes a read into so much room gives: the least of what is left, the room and the piece
abbrev pub given_count : Input → ℕ → ℕ
given_count input room = min (min (length input.left) room) input.piece

-- after so many bytes were given, of an input whose calls fail by plan
abbrev pub given_unplanned : ℕ → Failing Input → Failing Input
given_unplanned count input = record { inner = input_after count input.inner; plan = called input.plan }

-- after a read that failed by plan
abbrev pub stopped_read : Failing Input → Failing Input
stopped_read input = record input { plan = failed input.plan }
