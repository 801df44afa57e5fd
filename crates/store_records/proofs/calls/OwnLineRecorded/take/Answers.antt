use Rattle.object_values.specs.declared.calls.OwnLine.{OwnLine}
use Rattle.meaning_records.specs.PlaceLemmas.{by_parts_nowhere}
use Rattle.store_records.proofs.calls.OwnLineRecorded.take.Goals as goal

pub returns-in_default-clause-none : goal.returns-in_default-clause-none
returns-in_default-clause-none c =
    by_parts_nowhere (λ (thing : OwnLine). (thing.level, thing.text)) _ _ _ (rw c.in_default.is at c.in_ok-level.ensures.none)
