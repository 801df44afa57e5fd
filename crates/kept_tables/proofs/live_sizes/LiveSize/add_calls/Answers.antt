use Rattle.std.proofs.Common.{◌<◌, List, length, subst, arith}
use Rattle.object_values.specs.declared.calls.CallPart.{CallPart}
use Rattle.meaning_records.specs.Batches.{IsCallBatch}
use Rattle.meaning_records.specs.Live.{IsKeptBatch}
use Rattle.kept_contents.specs.Heads.{call_with}
use Rattle.kept_tables.specs.Batching.{CountsLiveBatch}
use Rattle.kept_tables.proofs.SizeLemmas.{counts_none, kept_counted}
use Rattle.kept_tables.proofs.live_sizes.LiveSize.add_calls.Goals as goal

pub loop-kept-init : goal.loop-kept-init
loop-kept-init c = counts_none IsKeptBatch c.args.self.now c.requires

pub loop-kept-preserved : goal.loop-kept-preserved
loop-kept-preserved c =
    let within : c.loop-kept.kept-index < length c.args.calls.now = omega arith in
    let kept = c.kept-item.result in
    let counted = subst (λ (l : List CallPart). CountsLiveBatch (λ contents. IsCallBatch contents (call_with kept.1.head l) kept.1.outcome) c.loop-kept.self c.add_call.new.self) c.as_slice-parts.ensures c.in_ok-add_call.ensures in
    kept_counted c.args.calls.now c.loop-kept.kept-index kept c.args.self.now c.loop-kept.self c.add_call.new.self within c.kept-item.is c.loop-kept.invariant counted
