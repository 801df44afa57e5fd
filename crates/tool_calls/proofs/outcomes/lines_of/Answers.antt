use Rattle.std.proofs.Common.{sym, ◌∙◌}
use Rattle.tool_calls.proofs.CountedLines.{none_left}
use Rattle.tool_calls.proofs.outcomes.lines_of.Goals as goal

pub returns-in-None : goal.returns-in-None
returns-in-None c = c.new.ensures ∙ sym (none_left c.args.level c.args.left.now.raw.now c.in-None.ensures)
