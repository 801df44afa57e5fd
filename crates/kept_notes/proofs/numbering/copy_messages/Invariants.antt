use Rattle.std.proofs.Common.{◌≡◌, take}
use Rattle.kept_notes.proofs.numbering.copy_messages.Given as goal

abbrev pub invariant-loop-message : goal.invariant-loop-message
invariant-loop-message l = l.copied ≡ take l.message-index l.messages
