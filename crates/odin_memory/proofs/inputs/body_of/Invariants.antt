use Rattle.std.proofs.Common.{◌≡◌, drop}
use Rattle.meaning_calls.specs.Outcomes.{file_in}
use Rattle.odin_memory.proofs.inputs.body_of.Given as goal

-- no file before has the name
abbrev pub invariant-loop-file : goal.invariant-loop-file
invariant-loop-file l = file_in l.name l.files ≡ file_in l.name (drop l.file-index l.files)
