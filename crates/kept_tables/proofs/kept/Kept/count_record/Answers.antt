use Rattle.std.proofs.Common.{subst}
use Rattle.std.proofs.lemmas.Result.{on_ok_weaker}
use Rattle.object_values.specs.declared.facts.Fresh.{Fresh}
use Rattle.meaning_records.specs.Live.{IsRecordBatch}
use Rattle.kept_tables.specs.Batching.{CountsLiveBatch}
use Rattle.kept_tables.proofs.kept.Kept.count_record.Goals as goal

pub add_record-requires-clause-may : goal.add_record-requires-clause-may
add_record-requires-clause-may c = rw c.in_ok-fresh.ensures c.requires.noted.may

pub returns : goal.returns
returns c =
    on_ok_weaker c.add_record.result
    (λ counted. subst (λ (f : Fresh). CountsLiveBatch (λ contents. IsRecordBatch contents f) c.args.live.now c.add_record.new.self) c.in_ok-fresh.ensures counted)
    c.add_record.ensures
