use Rattle.std.proofs.Common.{◌≡◌, ◌++◌, map, take}
use Rattle.object_values.specs.declared.jobs.FileBody.{FileBody}
use Rattle.project_kits.proofs.plain.add_names.Given as goal

abbrev pub invariant-loop-file : goal.invariant-loop-file
invariant-loop-file l = l.all ≡ l.initial.all ++ map (λ (file : FileBody). file.name) (take l.file-index l.files)
