use Rattle.object_values.specs.declared.items.StoredOutcome.{StoredOutcome}
use Rattle.meaning_records.specs.PlaceLemmas.{by_parts_nowhere}
use Rattle.store_records.proofs.calls.StoredOutcomeRecorded.take.Goals as goal

pub returns-in_default-clause-none : goal.returns-in_default-clause-none
returns-in_default-clause-none c =
    by_parts_nowhere (λ (thing : StoredOutcome). (thing.status, (thing.lines, thing.outputs))) _ _ _ (rw c.in_default.is at c.in_ok-status.ensures.none)
