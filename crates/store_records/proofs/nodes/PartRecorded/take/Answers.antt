use Rattle.object_values.specs.declared.views.Part.{Part}
use Rattle.meaning_records.specs.PlaceLemmas.{by_parts_nowhere}
use Rattle.store_records.proofs.nodes.PartRecorded.take.Goals as goal

pub returns-in_default-clause-none : goal.returns-in_default-clause-none
returns-in_default-clause-none c =
    by_parts_nowhere (λ (thing : Part). (thing.name, thing.body)) _ _ _ (rw c.in_default.is at c.in_ok-name.ensures.none)
