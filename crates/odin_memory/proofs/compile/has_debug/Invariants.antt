use Rattle.std.proofs.Common.{◌≡◌, codes, length}
use Rattle.std.specs.List.{list_any}
use Rattle.odin_memory.specs.Inputs.{lines, begins_with}
use Rattle.odin_memory.proofs.compile.has_debug.Given as goal

-- no line before begins so
abbrev pub invariant-lines : goal.invariant-lines
invariant-lines l = list_any (begins_with (codes "param debug ")) (lines l.rest) ≡ list_any (begins_with (codes "param debug ")) (lines l.initial.rest)

abbrev pub decreases-lines : goal.decreases-lines
decreases-lines l = length l.rest
