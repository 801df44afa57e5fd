use Rattle.std.proofs.Common.{◌≡◌, ◌++◌, take}
use Rattle.meaning_calls.specs.Jobs.{body_files}
use Rattle.tool_calls.proofs.jobs.put_body_files.Given as goal

abbrev pub invariant-loop-place : goal.invariant-loop-place
invariant-loop-place l = l.files ≡ l.initial.files ++ body_files 1 (take l.place l.parts)
