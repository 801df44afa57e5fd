use Rattle.object_values.specs.declared.items.StoredRecord.{StoredRecord}
use Rattle.meaning_records.specs.PlaceLemmas.{by_parts_nowhere}
use Rattle.store_records.proofs.node_records.StoredRecordRecorded.take.Goals as goal

pub returns-in_default-clause-none : goal.returns-in_default-clause-none
returns-in_default-clause-none c =
    by_parts_nowhere (λ (thing : StoredRecord). (thing.node, (thing.deps, (thing.reached, (thing.value, (thing.own_status, (thing.own_messages, (thing.status, (thing.messages, thing.height))))))))) _ _ _ (rw c.in_default.is at c.in_ok-node.ensures.none)
