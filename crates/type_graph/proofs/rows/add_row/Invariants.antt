-- The words so far are or-ed.
use Rattle.std.proofs.Common.{◌≡◌, false}
use Rattle.type_graph.specs.Rows.{Ored}
use Rattle.type_graph.proofs.rows.add_row.Given as goal

abbrev pub invariant-loop-place : goal.invariant-loop-place
invariant-loop-place l = Ored l.place l.into l.from l.initial.words l.words × (l.grew ≡ false → l.words ≡ l.initial.words)
