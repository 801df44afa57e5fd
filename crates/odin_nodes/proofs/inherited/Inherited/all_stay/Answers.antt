use Rattle.std.proofs.Common.{subst, List}
use Rattle.object_values.specs.declared.messages.Message.{Message}
use Rattle.odin_nodes.specs.Inheriting.{AreFew}
use Rattle.odin_nodes.proofs.Once.{inherits_none}
use Rattle.odin_nodes.proofs.inherited.Inherited.all_stay.Goals as goal

pub returns : goal.returns
returns c = inherits_none c.args.self.now (subst (λ (messages : List Message). AreFew messages) c.self.view_is c.self.invariant)
