use Rattle.object_values.specs.declared.messages.Message.{Message}
use Rattle.meaning_records.specs.PlaceLemmas.{by_parts_nowhere}
use Rattle.store_records.proofs.node_records.MessageRecorded.take.Goals as goal

pub returns-in_default-clause-none : goal.returns-in_default-clause-none
returns-in_default-clause-none c =
    by_parts_nowhere (λ (thing : Message). (thing.label, (thing.level, thing.text))) _ _ _ (rw c.in_default.is at c.in_ok-label.ensures.none)
