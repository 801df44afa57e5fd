-- What is known of an output in memory.
use Rattle.std.specs.Prelude.{◌≡◌, ◌↔◌, ◌⊎◌, ℕ, ◌-◌, List, ◌++◌, length, min, Result, IsErr, OnErr}
use Rattle.odin_outside.specs.Causes.{once_more}
use Rattle.odin_fakes.specs.declared.plan.Failing.{Failing}
use Rattle.odin_fakes.specs.Plan.{FailsNext, called, failed}

-- the bytes that were taken, how many are taken at most at once, for how many there is still room, and how many writes have failed
pub record Output : Type 0 where
  pub taken : List ℕ
  pub piece : ℕ
  pub room : ℕ
  pub faults : ℕ

-- after these bytes were taken
abbrev pub output_after : List ℕ → Output → Output
output_after bytes output = record output { taken = output.taken ++ bytes; room = output.room - length bytes }

-- how many of so many bytes a write takes: the least of them, the piece and the room
abbrev pub taken_count : Output → ℕ → ℕ
taken_count output offered = min (min offered output.piece) output.room

-- after a write that failed
abbrev pub refused : Output → Output
refused output = record output { faults = once_more output.faults }

-- after these bytes were taken, of an output whose calls fail by plan
abbrev pub took_unplanned : List ℕ → Failing Output → Failing Output
took_unplanned bytes output = record { inner = output_after bytes output.inner; plan = called output.plan }

-- What a write comes to that failed: by plan, which leaves the wrapped output as it was, or, where the plan lets it pass, for want of
-- room.
pub record StopsWrite {T E : Type 0} (old new : Failing Output) (result : Result T E) : Type 0 where
  pub fails : IsErr result ↔ (FailsNext old.plan ⊎ (old.inner.room ≡ 0))
  pub by_plan : FailsNext old.plan → new ≡ record old { plan = failed old.plan }
  pub no_room : ¬ (FailsNext old.plan) → old.inner.room ≡ 0 → new ≡ record { inner = refused old.inner; plan = failed old.plan }
  pub same : OnErr result (new.inner.taken ≡ old.inner.taken)
