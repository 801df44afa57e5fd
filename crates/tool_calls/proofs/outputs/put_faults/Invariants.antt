use Rattle.std.proofs.Common.{◌≡◌, ◌++◌, map, take}
use Rattle.object_values.specs.declared.messages.Status.TheVariants.{Abort}
use Rattle.meaning_calls.specs.Outcomes.{at_level, output_faults}
use Rattle.tool_calls.proofs.outputs.put_faults.Given as goal

abbrev pub invariant-loop-name : goal.invariant-loop-name
invariant-loop-name l = l.lines ≡ l.initial.lines ++ map (at_level Abort) (output_faults l.left.raw.now (take l.name-index l.names))
