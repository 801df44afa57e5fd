use Rattle.std.proofs.Common.{◌≡◌, ◌++◌, length}
use Rattle.std.specs.List.{flat_map}
use Rattle.odin_memory.specs.Inputs.{lines}
use Rattle.odin_memory.specs.Programs.{included}
use Rattle.odin_memory.proofs.scan.put_all_included.Given as goal

-- what is put, and what the lines that are left give, make the whole
abbrev pub invariant-lines : goal.invariant-lines
invariant-lines l = l.out ++ flat_map included (lines l.rest) ≡ l.initial.out ++ flat_map included (lines l.initial.rest)

abbrev pub decreases-lines : goal.decreases-lines
decreases-lines l = length l.rest
