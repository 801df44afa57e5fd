use Rattle.std.proofs.Common.{◌≡◌, take, map}
use Rattle.build_files.specs.MessageLines.{firsts}
use Rattle.build_view.specs.Colours.{painted_message}
use Rattle.build_view.proofs.colours.first_lines.Given as goal

abbrev pub invariant-loop-message : goal.invariant-loop-message
invariant-loop-message l = l.lines.keys ≡ firsts (map painted_message (take l.message-index l.messages))
