use Rattle.std.proofs.Common.{◌≡◌, ◌++◌, length}
use Rattle.std.specs.List.{flat_map}
use Rattle.odin_memory.specs.Inputs.{lines}
use Rattle.odin_memory.specs.Programs.{compiled, warned}
use Rattle.odin_memory.proofs.compile.compile_text.Given as goal

-- what is put, and what the lines that are left give, make the whole
abbrev pub invariant-lines : goal.invariant-lines
invariant-lines l = record {
  object : l.object ++ flat_map compiled (lines l.rest) ≡ l.initial.object ++ flat_map compiled (lines l.initial.rest);
  warnings : l.warnings ++ flat_map warned (lines l.rest) ≡ l.initial.warnings ++ flat_map warned (lines l.initial.rest);
}

abbrev pub decreases-lines : goal.decreases-lines
decreases-lines l = length l.rest
