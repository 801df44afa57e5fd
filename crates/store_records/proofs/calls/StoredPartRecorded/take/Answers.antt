use Rattle.object_values.specs.declared.items.StoredPart.{StoredPart}
use Rattle.meaning_records.specs.PlaceLemmas.{by_parts_nowhere}
use Rattle.store_records.proofs.calls.StoredPartRecorded.take.Goals as goal

pub returns-in_default-clause-none : goal.returns-in_default-clause-none
returns-in_default-clause-none c =
    by_parts_nowhere (λ (thing : StoredPart). (thing.slot, (thing.label, thing.content))) _ _ _ (rw c.in_default.is at c.in_ok-slot.ensures.none)
