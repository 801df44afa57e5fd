use Rattle.std.proofs.Common.{◌≡◌, length}
use Rattle.odin_memory.specs.Inputs.{lines}
use Rattle.odin_memory.specs.Programs.{first_directive}
use Rattle.odin_memory.proofs.directives.first_directive.Given as goal

-- no line before begins with `!`
abbrev pub invariant-lines : goal.invariant-lines
invariant-lines l = first_directive (lines l.rest) ≡ first_directive (lines l.initial.rest)

abbrev pub decreases-lines : goal.decreases-lines
decreases-lines l = length l.rest
