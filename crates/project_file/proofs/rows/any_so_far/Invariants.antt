use Rattle.std.proofs.Common.{◌≡◌, ◌++◌, drop, false}
use Rattle.project_file.specs.Rows.{any_so_far}
use Rattle.project_file.proofs.rows.any_so_far.Given as goal

-- what is written and what is left to write make the whole
abbrev pub invariant-loop-passes : goal.invariant-loop-passes
invariant-loop-passes l = l.next.items ++ any_so_far l.any (drop l.passes-index l.row) ≡ any_so_far false l.row
