use Rattle.std.proofs.Common.{Bor}
use Rattle.object_values.specs.declared.records.NodeRecord.{NodeRecord}
use Rattle.kept_tables.proofs.RecordLemmas.{placed_named}
use Rattle.kept_tables.proofs.kept.Kept.record_at.Goals as goal

pub returns-clause-named : goal.returns-clause-named
returns-clause-named c =
    rw (← c.self.view_is)
    (placed_named (λ (r : Bor NodeRecord). r.now) c.self.inside.contents.contents c.args.place c.self.inside.records.records c.at.result c.at.ensures c.self.invariant.1)
