use Rattle.std.proofs.Common.{◌≡◌, ◌++◌, take}
use Rattle.odin_memory.specs.Programs.{of_all_lines, compiled, warned}
use Rattle.odin_memory.proofs.compile.compile_files.Given as goal

abbrev pub invariant-loop-file : goal.invariant-loop-file
invariant-loop-file l = record {
  object : l.object ≡ l.initial.object ++ of_all_lines compiled (take l.file-index l.files);
  warnings : l.warnings ≡ l.initial.warnings ++ of_all_lines warned (take l.file-index l.files);
}
