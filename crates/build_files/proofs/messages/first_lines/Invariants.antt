use Rattle.std.proofs.Common.{◌≡◌, take, map}
use Rattle.build_files.specs.MessageLines.{firsts, message_line}
use Rattle.build_files.proofs.messages.first_lines.Given as goal

abbrev pub invariant-loop-message : goal.invariant-loop-message
invariant-loop-message l = l.lines.keys ≡ firsts (map (message_line l.labelled) (take l.message-index l.messages))
