use Rattle.std.proofs.Common.{◌≡◌, ◌++◌, take, map}
use Rattle.object_values.specs.declared.nodes.Step.TheVariants.{Maker}
use Rattle.odin_nodes.proofs.making.put_makers.Given as goal

abbrev pub invariant-loop-maker : goal.invariant-loop-maker
invariant-loop-maker l = l.steps ≡ l.initial.steps ++ map Maker (take l.maker-index l.path)
