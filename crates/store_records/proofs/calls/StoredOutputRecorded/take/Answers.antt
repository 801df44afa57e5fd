use Rattle.object_values.specs.declared.items.StoredOutput.{StoredOutput}
use Rattle.meaning_records.specs.PlaceLemmas.{by_parts_nowhere}
use Rattle.store_records.proofs.calls.StoredOutputRecorded.take.Goals as goal

pub returns-in_default-clause-none : goal.returns-in_default-clause-none
returns-in_default-clause-none c =
    by_parts_nowhere (λ (thing : StoredOutput). (thing.name, thing.content)) _ _ _ (rw c.in_default.is at c.in_ok-name.ensures.none)
