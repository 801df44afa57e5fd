use Rattle.std.proofs.Common.{◌≡◌, ◌++◌, take, map}
use Rattle.meaning_tasks.specs.Calls.{compound_part}
use Rattle.task_needs.proofs.inputs.put_compound_parts.Given as goal

abbrev pub invariant-loop-part : goal.invariant-loop-part
invariant-loop-part l = l.out ≡ l.initial.out ++ map (compound_part l.slot l.label) (take l.part-index l.parts)
