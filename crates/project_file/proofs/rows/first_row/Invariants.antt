use Rattle.std.proofs.Common.{◌≡◌, ◌-◌, ◌++◌}
use Rattle.project_file.specs.Rows.{falses, first_row}
use Rattle.project_file.proofs.rows.first_row.Given as goal

abbrev pub invariant-loop : goal.invariant-loop
invariant-loop l = l.row.items ++ falses (l.len - l.counter) ≡ first_row l.len
