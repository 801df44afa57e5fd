use Rattle.object_values.specs.declared.nodes.ParamValue.{ParamValue}
use Rattle.meaning_records.specs.PlaceLemmas.{by_parts_nowhere}
use Rattle.store_records.proofs.nodes.ParamValueRecorded.take.Goals as goal

pub returns-in_default-clause-none : goal.returns-in_default-clause-none
returns-in_default-clause-none c =
    by_parts_nowhere (λ (thing : ParamValue). (thing.param, thing.value)) _ _ _ (rw c.in_default.is at c.in_ok-param.ensures.none)
