use Rattle.std.proofs.Common.{◌≡◌, take, map}
use Rattle.node_tasks.proofs.outs.part_names.Given as goal

abbrev pub invariant-loop-part : goal.invariant-loop-part
invariant-loop-part l = l.names ≡ map (λ p. p.name) (take l.part-index l.parts)
