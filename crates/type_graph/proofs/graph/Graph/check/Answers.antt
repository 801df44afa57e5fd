-- The tables are made of the declarations.
use Rattle.std.proofs.Common.{subst}
use Rattle.meaning_graph.specs.Checks.{Checked}
use Rattle.type_graph.specs.Tables.{AreTables}
use Rattle.type_graph.proofs.graph.Graph.check.Goals as goal

pub returns-clause-checked : goal.returns-clause-checked
returns-clause-checked c = subst Checked c.as_slice.ensures c.in_ok-tables.ensures.ok.sound.checked

pub invariant_of-result : goal.invariant_of-result
invariant_of-result c = subst (λ g. AreTables g c.in_ok-tables.tables) c.as_slice.ensures c.in_ok-tables.ensures.ok
