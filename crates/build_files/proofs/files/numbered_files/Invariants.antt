use Rattle.std.proofs.Common.{◌≡◌, take}
use Rattle.build_files.specs.Files.{numbered_files}
use Rattle.build_files.proofs.files.numbered_files.Given as goal

abbrev pub invariant-loop-place : goal.invariant-loop-place
invariant-loop-place l = l.files ≡ numbered_files 1 (take l.place l.lines)
