use Rattle.std.proofs.Common.{◌∙◌, refl}
use Rattle.std.proofs.lemmas.Result.{on_ok_weaker}
use Rattle.object_values.specs.declared.items.Item.TheVariants.{Kept}
use Rattle.kept_tables.proofs.LiveLemmas.{adds_last, call_batch, longer}
use Rattle.kept_tables.proofs.live_batches.LiveBatches.add_call.Goals as goal

pub add_batch-requires : goal.add_batch-requires
add_batch-requires c =
    let first = c.in_ok-stored.ensures in
    let second = c.in_ok-given.ensures in
    let last = c.stored_outcome.new.added in
    let batch = call_batch c.args.self.now.table.contents c.requires.none c.args.self.now.added c.stored_call.new.added last c.args.kept.call c.args.kept.outcome
    c.in_ok-stored.stored c.in_ok-given.given first.adds (rw first.contents at first.call) (rw first.contents at second.adds)
    (rw (second.contents, first.contents) at second.outcome) in
    rw c.len-from.ensures (longer c.args.self.now.added last (Kept c.in_ok-stored.stored c.in_ok-given.given) batch)

pub returns : goal.returns
returns c =
    let first = c.in_ok-stored.ensures in
    let second = c.in_ok-given.ensures in
    let last = c.stored_outcome.new.added in
    let none = second.contents ∙ first.contents ∙ c.requires.none in
    let batch = call_batch c.args.self.now.table.contents c.requires.none c.args.self.now.added c.stored_call.new.added last c.args.kept.call c.args.kept.outcome
    c.in_ok-stored.stored c.in_ok-given.given first.adds (rw first.contents at first.call) (rw first.contents at second.adds)
    (rw (second.contents, first.contents) at second.outcome) in
    on_ok_weaker c.add_batch.result
    (λ grown. adds_last c.args.self.now c.add_batch.new.self last c.len-from.result (Kept c.in_ok-stored.stored c.in_ok-given.given) refl batch c.len-from.ensures
    c.add_batch.ensures.added (rw (c.add_batch.ensures.table, c.add_batch.ensures.added) (record { none = none; held = second.held })) grown)
    c.add_batch.ensures.batches
