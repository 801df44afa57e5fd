use Rattle.std.proofs.Common.{◌≡◌, map, take}
use Rattle.meaning_calls.specs.Outcomes.{output_of}
use Rattle.tool_calls.proofs.outputs.outputs_of.Given as goal

abbrev pub invariant-loop-name : goal.invariant-loop-name
invariant-loop-name l = l.outputs ≡ map (output_of l.left.raw.now) (take l.name-index l.names)
