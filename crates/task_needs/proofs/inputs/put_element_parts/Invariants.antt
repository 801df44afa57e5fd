use Rattle.std.proofs.Common.{◌≡◌, ◌++◌, take, map}
use Rattle.meaning_tasks.specs.Needs.{values_of}
use Rattle.meaning_tasks.specs.Calls.{simple_part}
use Rattle.task_needs.proofs.inputs.put_element_parts.Given as goal

abbrev pub invariant-loop-element : goal.invariant-loop-element
invariant-loop-element g l = l.out ≡ l.initial.out ++ map (simple_part l.graph (values_of (g.R.Results.results l.seen)) l.slot) (take l.element-index l.elements)
