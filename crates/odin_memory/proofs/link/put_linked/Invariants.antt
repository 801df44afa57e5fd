use Rattle.std.proofs.Common.{◌≡◌, ◌++◌, take}
use Rattle.odin_memory.specs.Programs.{ld_output}
use Rattle.odin_memory.proofs.link.put_linked.Given as goal

abbrev pub invariant-loop-file : goal.invariant-loop-file
invariant-loop-file l = l.out ≡ l.initial.out ++ ld_output (take l.file-index l.files)
