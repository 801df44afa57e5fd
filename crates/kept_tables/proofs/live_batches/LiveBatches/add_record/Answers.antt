use Rattle.std.proofs.Common.{◌∙◌, refl, subst, sym}
use Rattle.std.specs.Prelude.{List}
use Rattle.object_values.specs.declared.items.Item.TheVariants.{Node}
use Rattle.object_values.specs.declared.records.NodeRecord.{NodeRecord}
use Rattle.object_values.specs.declared.views.Value.{Value}
use Rattle.meaning_records.specs.Batches.{IsRecordOf}
use Rattle.kept_contents.specs.declared.shared.Content.{Content}
use Rattle.kept_contents.specs.Added.{contents_with}
use Rattle.kept_contents.specs.Stocks.{values_of_contents}
use Rattle.kept_notes.proofs.Lemmas.{note_fresh, note_within}
use Rattle.kept_notes.specs.Loaded.{record_with}
use Rattle.kept_tables.specs.Batching.{IsCopied}
use Rattle.kept_tables.proofs.LiveLemmas.{adds_last, longer, record_batch}
use Rattle.kept_tables.proofs.live_batches.LiveBatches.add_record.Goals as goal

pub add_batch-requires : goal.add_batch-requires
add_batch-requires c =
    let made = c.in_ok-stored.ensures in
    let middle = c.number_record.new.added in
    let batch = record_batch c.number_record.new.table.contents (made.contents ∙ c.requires.fresh.none) c.args.self.now.added middle c.args.fresh.now
    c.in_ok-stored.stored (rw made.contents made.adds) made.stored in
    rw c.len-from.ensures (longer c.args.self.now.added middle (Node c.in_ok-stored.stored) batch)

pub returns-clause-added : goal.returns-clause-added
returns-clause-added c =
    let made = c.in_ok-stored.ensures in
    let middle = c.number_record.new.added in
    let none = made.contents ∙ c.requires.fresh.none in
    let batch = record_batch c.number_record.new.table.contents none c.args.self.now.added middle c.args.fresh.now c.in_ok-stored.stored (rw made.contents made.adds) made.stored in
    adds_last c.args.self.now c.add_batch.new.self middle c.len-from.result (Node c.in_ok-stored.stored) refl batch c.len-from.ensures c.add_batch.ensures.added
    (rw (c.add_batch.ensures.table, c.add_batch.ensures.added) (record { none = none; held = made.held })) c.in_ok-add_batch.ensures.batches

pub returns-clause-noted : goal.returns-clause-noted
returns-clause-noted c =
    let made = c.in_ok-stored.ensures in
    let fresh = c.args.fresh.now in
    let checked = c.args.checked in
    let stored = c.in_ok-stored.stored in
    let contents = values_of_contents c.number_record.new.added in
    let none = made.contents ∙ c.requires.fresh.none in
    let is : IsRecordOf contents stored fresh = subst (λ (l : List Value). IsRecordOf (contents_with l c.number_record.new.added) stored fresh) none made.stored in
    let whole : IsCopied contents fresh checked (record_with stored fresh.present checked) = record {
      says = note_fresh contents checked stored fresh c.requires.may is;
      checked_at = refl;
      named = note_within contents checked stored fresh c.requires.may is;
    } in
    let noted = subst (λ (r : NodeRecord). IsCopied contents fresh checked r) (sym c.in_ok-noted.ensures) whole in
    subst (λ (l : List Content). IsCopied (values_of_contents l) fresh checked c.in_ok-noted.noted) (sym c.add_batch.ensures.added) noted
