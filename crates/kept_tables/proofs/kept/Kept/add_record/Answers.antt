use Rattle.std.proofs.Common.{subst}
use Rattle.std.proofs.lemmas.Result.{IfOk-weaker, on_ok_weaker}
use Rattle.object_values.specs.declared.facts.Fresh.{Fresh}
use Rattle.meaning_records.specs.Batches.{IsNotable}
use Rattle.meaning_records.specs.Live.{IsRecordBatch}
use Rattle.kept_contents.specs.Stocks.{values_of_contents}
use Rattle.kept_tables.specs.Batching.{AddsLiveBatch, IsCopied}
use Rattle.kept_tables.proofs.kept.Kept.add_record.Goals as goal

pub add_record-requires-clause-may : goal.add_record-requires-clause-may
add_record-requires-clause-may c = rw c.in_ok-fresh.ensures c.requires.noted.may

pub returns-clause-added : goal.returns-clause-added
returns-clause-added c =
    on_ok_weaker c.add_record.result
    (λ added. subst (λ (f : Fresh). AddsLiveBatch (λ contents. IsRecordBatch contents f) c.args.live.now c.add_record.new.self) c.in_ok-fresh.ensures added)
    c.add_record.ensures.added

pub returns-clause-noted : goal.returns-clause-noted
returns-clause-noted c =
    IfOk-weaker c.add_record.result (IsCopied (values_of_contents c.add_record.new.self.added) c.in_ok-fresh.fresh c.args.kept.now.checked) _
    (λ noted is. subst (λ (f : Fresh). IsCopied (values_of_contents c.add_record.new.self.added) f c.args.kept.now.checked noted) c.in_ok-fresh.ensures is)
    c.add_record.ensures.noted
