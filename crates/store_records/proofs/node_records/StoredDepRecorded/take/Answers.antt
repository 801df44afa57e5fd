use Rattle.object_values.specs.declared.items.StoredDep.{StoredDep}
use Rattle.meaning_records.specs.PlaceLemmas.{by_parts_nowhere}
use Rattle.store_records.proofs.node_records.StoredDepRecorded.take.Goals as goal

pub returns-in_default-clause-none : goal.returns-in_default-clause-none
returns-in_default-clause-none c =
    by_parts_nowhere (λ (thing : StoredDep). (thing.node, thing.content)) _ _ _ (rw c.in_default.is at c.in_ok-node.ensures.none)
