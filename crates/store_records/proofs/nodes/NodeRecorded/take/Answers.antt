use Rattle.object_values.specs.declared.nodes.Node.{Node}
use Rattle.meaning_records.specs.PlaceLemmas.{by_parts_nowhere}
use Rattle.store_records.proofs.nodes.NodeRecorded.take.Goals as goal

pub returns-in_default-clause-none : goal.returns-in_default-clause-none
returns-in_default-clause-none c =
    by_parts_nowhere (λ (thing : Node). (thing.source, (thing.params, thing.steps))) _ _ _ (rw c.in_default.is at c.in_ok-source.ensures.none)
