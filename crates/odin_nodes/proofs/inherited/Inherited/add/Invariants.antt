use Rattle.std.proofs.Common.{take}
use Rattle.odin_nodes.specs.Inheriting.{Inherits}
use Rattle.odin_nodes.proofs.inherited.Inherited.add.Given as goal

abbrev pub invariant-loop-message : goal.invariant-loop-message
invariant-loop-message l = Inherits l.fn.self (take l.message-index l.messages) l.self
