use Rattle.std.proofs.Common.{◌∙◌, List, ℕ, refl, subst, sym}
use Rattle.std.proofs.lemmas.Result.{on_ok_weaker}
use Rattle.object_values.specs.declared.items.Item.TheVariants.{Put}
use Rattle.meaning_records.specs.Batches.{IsPutBatch}
use Rattle.kept_tables.proofs.LiveLemmas.{Batched, adds_last, longer, put_batch}
use Rattle.kept_tables.proofs.live_batches.LiveBatches.add_source.Goals as goal

pub add_batch-requires : goal.add_batch-requires
add_batch-requires c =
    let made = c.in_ok-number.ensures in
    let middle = c.number_text.new.added in
    let batch = put_batch c.number_text.new.table.contents (made.contents ∙ c.requires.none) c.args.self.now.added middle c.args.name.now c.args.text.now
    c.in_ok-number.number (rw made.contents made.adds) made.number in
    rw c.len-from.ensures (longer c.args.self.now.added middle (Put c.args.name.now c.in_ok-number.number) batch)

pub returns : goal.returns
returns c =
    let made = c.in_ok-number.ensures in
    let middle = c.number_text.new.added in
    let none = made.contents ∙ c.requires.none in
    let name = c.args.name.now in
    let text = c.args.text.now in
    let number = c.in_ok-number.number in
    let batch = put_batch c.number_text.new.table.contents none c.args.self.now.added middle name text number (rw made.contents made.adds) made.number in
    let copied = subst (λ (n : List ℕ). Batched (λ contents. IsPutBatch contents name text) c.args.self.now.added middle (Put n number)) (sym c.in_ok-name.ensures) batch in
    on_ok_weaker c.add_batch.result
    (λ grown. adds_last c.args.self.now c.add_batch.new.self middle c.len-from.result (Put c.in_ok-name.name number) refl copied c.len-from.ensures
    c.add_batch.ensures.added (rw (c.add_batch.ensures.table, c.add_batch.ensures.added) (record { none = none; held = made.held })) grown)
    c.add_batch.ensures.batches
