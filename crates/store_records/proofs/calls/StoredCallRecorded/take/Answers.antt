use Rattle.object_values.specs.declared.items.StoredCall.{StoredCall}
use Rattle.meaning_records.specs.PlaceLemmas.{by_parts_nowhere}
use Rattle.store_records.proofs.calls.StoredCallRecorded.take.Goals as goal

pub returns-in_default-clause-none : goal.returns-in_default-clause-none
returns-in_default-clause-none c =
    by_parts_nowhere (λ (thing : StoredCall). (thing.tool, (thing.version, (thing.words, (thing.params, (thing.parts, thing.outs)))))) _ _ _ (rw c.in_default.is at c.in_ok-tool.ensures.none)
