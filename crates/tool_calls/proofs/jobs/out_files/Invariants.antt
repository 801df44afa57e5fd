use Rattle.std.proofs.Common.{◌≡◌, ◌∷◌, map, take}
use Rattle.meaning_calls.specs.Jobs.{warnings_file, out_file}
use Rattle.tool_calls.proofs.jobs.out_files.Given as goal

abbrev pub invariant-loop-name : goal.invariant-loop-name
invariant-loop-name l = l.outs ≡ warnings_file ∷ map out_file (take l.name-index l.names)
