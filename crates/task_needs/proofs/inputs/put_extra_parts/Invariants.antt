use Rattle.std.proofs.Common.{◌≡◌, ◌+◌, ◌++◌, drop}
use Rattle.meaning_tasks.specs.Needs.{values_of}
use Rattle.meaning_tasks.specs.Calls.{extra_parts}
use Rattle.task_needs.proofs.inputs.put_extra_parts.Given as goal

abbrev pub invariant-loop-place : goal.invariant-loop-place
invariant-loop-place g l =
    l.initial.out ++ extra_parts l.graph (values_of (g.R.Results.results l.seen)) 1 l.extras
    ≡ l.out ++ extra_parts l.graph (values_of (g.R.Results.results l.seen)) (l.place + 1) (drop l.place l.extras)
