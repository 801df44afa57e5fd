-- The invariant says so.
use Rattle.std.proofs.Common.{subst}
use Rattle.meaning_graph.specs.Checks.{Checked}
use Rattle.type_graph.proofs.graph.Graph.checked.Goals as goal

pub returns : goal.returns
returns c = subst Checked c.self.view_is c.self.invariant.sound.checked
