use Rattle.std.proofs.Common.{◌≡◌, ◌<◌, ◌≤◌, ◌∙◌, ℕ, List, ap, length, refl, take, sym, subst, arith}
use Rattle.std.specs.Prelude.{Option, Some, slice_get}
use Rattle.std.proofs.lemmas.List.{length-map, take_all}
use Rattle.object_values.specs.declared.facts.Fresh.{Fresh}
use Rattle.object_values.specs.declared.records.NodeRecord.{NodeRecord}
use Rattle.meaning_records.specs.Batches.{IsNotable}
use Rattle.meaning_records.specs.Live.{IsRecordBatch}
use Rattle.kept_contents.specs.Stocks.{values_of_contents}
use Rattle.kept_contents.proofs.Lemmas.{mapped}
use Rattle.kept_notes.specs.Facts.{IsNotedIn, fresh_of}
use Rattle.kept_tables.specs.Batching.{AddsLiveBatches}
use Rattle.kept_tables.specs.Holdings.{fresh_in}
use Rattle.kept_tables.specs.Live.{AreCopied, epochs_of}
use Rattle.kept_tables.proofs.CopyLemmas.{all_at, copied_next, copied_none}
use Rattle.kept_tables.proofs.LiveLemmas.{adds_next, adds_none, none_within}
use Rattle.kept_tables.proofs.kept.Kept.add_records.Goals as goal
use Rattle.kept_tables.proofs.kept.Kept.add_records.Goals.{in-Some+in_ok-add_record+in_ok-push, in_default}

pub loop-place-init : goal.loop-place-init
loop-place-init c = record { adds = adds_none IsRecordBatch c.args.live.now c.requires; notes = rw c.new-notes.ensures.items (copied_none (values_of_contents c.args.live.now.added)) }

pub add_record-requires-clause-noted : goal.add_record-requires-clause-noted
add_record-requires-clause-noted c =
    let self = c.args.self.now in
    all_at (IsNotedIn self.tables.contents) self.records.records c.loop-place.place c.in-Some.kept.now c.may_be_noted.ensures.noted (sym c.in-Some.ensures.is)

pub loop-place-preserved : goal.loop-place-preserved
loop-place-preserved c = elim c.match-record_at.branch [
  | in-Some+in_ok-add_record+in_ok-push w ↦
      let self = c.args.self.now in
      let records = self.records.records in
      let contents = self.tables.contents in
      let here = sym w.in-Some.ensures.is in
      let fresh = fresh_of contents w.in-Some.kept.now in
      let at = mapped (fresh_of contents) records w.in-Some.kept.now c.loop-place.place here in
      let made = w.in_ok-add_record.ensures in
      rw (w.live-is, w.notes-is) (record {
        adds = adds_next IsRecordBatch (fresh_in self) c.loop-place.place fresh c.args.live.now c.loop-place.live w.add_record.new.live at
            c.loop-place.invariant.adds made.added;
        notes = copied_next (values_of_contents c.loop-place.live.added) _ (values_of_contents w.add_record.new.live.added) made.added.contents contents records
            c.loop-place.notes.items w.push.new.self.items c.loop-place.place w.in-Some.kept.now w.in_ok-add_record.field-0 fresh here
            refl c.loop-place.invariant.notes made.noted w.in_ok-push.ensures.items;
      })
  | in_default w ↦
      let records = c.args.self.now.records.records in
      let within : c.loop-place.place < length records = omega arith in
      absurd (none_within records c.loop-place.place (sym w.in_default.ensures.is) within)
]

pub returns-clause-added : goal.returns-clause-added
returns-clause-added c =
    let self = c.args.self.now in
    let all : length (fresh_in self) ≤ c.loop-place.place = omega (arith, length-map self.records.records (fresh_of self.tables.contents)) in
    subst (λ (l : List Fresh). AddsLiveBatches IsRecordBatch l c.args.live.now c.loop-place.live) (take_all c.loop-place.place (fresh_in self) all)
    c.loop-place.invariant.adds

pub returns-clause-notes : goal.returns-clause-notes
returns-clause-notes c =
    let self = c.args.self.now in
    let all : length (fresh_in self) ≤ c.loop-place.place = omega (arith, length-map self.records.records (fresh_of self.tables.contents)) in
    let each : length (epochs_of self.records.records) ≤ c.loop-place.place = omega (arith, length-map self.records.records (λ (r : NodeRecord). r.checked)) in
    let contents = values_of_contents c.loop-place.live.added in
    subst (λ (l : List Fresh). AreCopied contents l (epochs_of self.records.records) c.loop-place.notes.items) (take_all c.loop-place.place (fresh_in self) all)
    (subst (λ (l : List (Option ℕ)). AreCopied contents (take c.loop-place.place (fresh_in self)) l c.loop-place.notes.items)
    (take_all c.loop-place.place (epochs_of self.records.records) each) c.loop-place.invariant.notes)
