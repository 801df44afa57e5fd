use Rattle.std.proofs.Common.{[], take}
use Rattle.odin_nodes.specs.Inheriting.{Inherits}
use Rattle.validator.specs.Verdicts.{messages_added}
use Rattle.validator.proofs.renewing.messages_with.Given as goal

abbrev pub invariant-loop-need : goal.invariant-loop-need
invariant-loop-need l = Inherits [] (messages_added (take l.need-index l.needs)) l.messages
