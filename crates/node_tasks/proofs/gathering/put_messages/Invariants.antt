use Rattle.std.proofs.Common.{◌≡◌, ◌++◌, take}
use Rattle.node_tasks.proofs.gathering.put_messages.Given as goal

abbrev pub invariant-loop-message : goal.invariant-loop-message
invariant-loop-message l = l.out ≡ l.initial.out ++ take l.message-index l.messages
