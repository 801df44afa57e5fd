-- What calls make of a file in memory whose calls fail by plan.
use Rattle.std.specs.Prelude.{◌≡◌, ◌↔◌, ◌⊎◌, ℕ, List, length, Result, IsErr, OnErr}
use Rattle.odin_memory.specs.Calls.{Call, Wrote}
use Rattle.odin_memory.specs.File.{File, after_call, refused}
use Rattle.odin_fakes.specs.declared.plan.Failing.{Failing}
use Rattle.odin_fakes.specs.Plan.{FailsNext, called, failed}

-- after a call that did not fail, of a file whose calls fail by plan
abbrev pub went : Call → ℕ → Failing File → Failing File
went call bytes file = record { inner = after_call call bytes file.inner; plan = called file.plan }

-- after a write of these bytes at this offset
abbrev pub went_write : ℕ → List ℕ → Failing File → Failing File
went_write at bytes file = went (Wrote at bytes) (length bytes) file

-- after one that failed by plan, which leaves the wrapped file as it was
abbrev pub stopped_by_plan : Failing File → Failing File
stopped_by_plan file = record file { plan = failed file.plan }

-- after one that the wrapped file refused
abbrev pub stopped_by_file : Failing File → Failing File
stopped_by_file file = record { inner = refused file.inner; plan = failed file.plan }

-- What such a call comes to that failed: by plan, or, where the plan lets it pass, because the wrapped file refuses it.
pub record FailsByPlanOrFile {T E : Type 0} (refuses : Type 0) (old new : Failing File) (result : Result T E) : Type 0 where
  pub fails : IsErr result ↔ (FailsNext old.plan ⊎ refuses)
  pub by_plan : FailsNext old.plan → new ≡ stopped_by_plan old
  pub by_file : ¬ (FailsNext old.plan) → refuses → new ≡ stopped_by_file old
  pub one : OnErr result ((new ≡ stopped_by_plan old) ⊎ (new ≡ stopped_by_file old))
