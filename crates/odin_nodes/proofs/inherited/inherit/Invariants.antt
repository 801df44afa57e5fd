use Rattle.std.proofs.Common.{take, flat_map, []}
use Rattle.odin_nodes.specs.Inheriting.{Inherits}
use Rattle.odin_nodes.proofs.inherited.inherit.Given as goal

abbrev pub invariant-loop-need : goal.invariant-loop-need
invariant-loop-need l = Inherits [] (flat_map (λ view. view.messages) (take l.need-index l.needs)) l.messages
