use Rattle.std.proofs.Common.{◌≡◌, ◌++◌, take, map}
use Rattle.meaning_tasks.specs.Needs.{values_of}
use Rattle.meaning_tasks.specs.Calls.{reached_part}
use Rattle.task_needs.proofs.inputs.put_reached_parts.Given as goal

abbrev pub invariant-loop-name : goal.invariant-loop-name
invariant-loop-name g l = l.out ≡ l.initial.out ++ map (reached_part (values_of (g.R.Results.results l.seen)) l.slot) (take l.name-index l.names)
