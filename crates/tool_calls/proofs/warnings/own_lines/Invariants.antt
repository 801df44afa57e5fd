use Rattle.std.proofs.Common.{length}
use Rattle.tool_calls.proofs.CountedLines.{counted, IsCounting}
use Rattle.tool_calls.proofs.warnings.own_lines.Given as goal

abbrev pub invariant-lines : goal.invariant-lines
invariant-lines l = IsCounting l.level (counted l.level 1000 l.initial.rest) l.lines l.rest

abbrev pub decreases-lines : goal.decreases-lines
decreases-lines l = length l.rest
