use Rattle.std.proofs.Common.{◌≡◌, ◌++◌, take}
use Rattle.build_files.specs.Listed.{take_lines}
use Rattle.build_files.proofs.listed.write_takes.Given as goal

abbrev pub invariant-loop-name : goal.invariant-loop-name
invariant-loop-name l = l.out ≡ l.initial.out ++ take_lines (take l.name-index l.names)
