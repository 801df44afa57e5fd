use Rattle.std.proofs.Common.{Bor}
use Rattle.object_values.specs.declared.records.NodeRecord.{NodeRecord}
use Rattle.kept_tables.proofs.RecordLemmas.{found_named}
use Rattle.kept_tables.proofs.kept.Kept.get.Goals as goal

pub returns-clause-named : goal.returns-clause-named
returns-clause-named c =
    rw (← c.self.view_is)
    (found_named (λ (r : Bor NodeRecord). r.now) c.self.inside.contents.contents c.args.node.now c.self.inside.records.records c.get.result c.get.ensures c.self.invariant.1)
