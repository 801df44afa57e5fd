use Rattle.std.proofs.Common.{◌≡◌, ◌<◌, ◌≤◌, ◌∙◌, List, ap, length, sym, subst, arith}
use Rattle.std.specs.Prelude.{Some, slice_get}
use Rattle.std.proofs.lemmas.List.{length-map, take_all}
use Rattle.object_values.specs.declared.facts.Fresh.{Fresh}
use Rattle.meaning_records.specs.Batches.{IsNotable}
use Rattle.meaning_records.specs.Live.{IsRecordBatch}
use Rattle.kept_contents.proofs.Lemmas.{mapped}
use Rattle.kept_notes.specs.Facts.{IsNotedIn, fresh_of}
use Rattle.kept_tables.specs.Batching.{CountsLiveBatches}
use Rattle.kept_tables.specs.Holdings.{fresh_in}
use Rattle.kept_tables.proofs.CopyLemmas.{all_at}
use Rattle.kept_tables.proofs.LiveLemmas.{none_within}
use Rattle.kept_tables.proofs.SizeLemmas.{counts_next, counts_none}
use Rattle.kept_tables.proofs.kept.Kept.count_records.Goals as goal
use Rattle.kept_tables.proofs.kept.Kept.count_records.Goals.{in-Some+in_ok-count_record, in_default}

pub loop-place-init : goal.loop-place-init
loop-place-init c = counts_none IsRecordBatch c.args.live.now c.requires

pub count_record-requires-clause-noted : goal.count_record-requires-clause-noted
count_record-requires-clause-noted c =
    let self = c.args.self.now in
    all_at (IsNotedIn self.tables.contents) self.records.records c.loop-place.place c.in-Some.kept.now c.may_be_noted.ensures.noted (sym c.in-Some.ensures.is)

pub loop-place-preserved : goal.loop-place-preserved
loop-place-preserved c = elim c.match-record_at.branch [
  | in-Some+in_ok-count_record w ↦
      let self = c.args.self.now in
      let contents = self.tables.contents in
      let at = mapped (fresh_of contents) self.records.records w.in-Some.kept.now c.loop-place.place (sym w.in-Some.ensures.is) in
      rw w.live-is (counts_next IsRecordBatch (fresh_in self) c.loop-place.place (fresh_of contents w.in-Some.kept.now) c.args.live.now c.loop-place.live
      w.count_record.new.live at c.loop-place.invariant w.in_ok-count_record.ensures)
  | in_default w ↦
      let records = c.args.self.now.records.records in
      let within : c.loop-place.place < length records = omega arith in
      absurd (none_within records c.loop-place.place (sym w.in_default.ensures.is) within)
]

pub returns : goal.returns
returns c =
    let self = c.args.self.now in
    let all : length (fresh_in self) ≤ c.loop-place.place = omega (arith, length-map self.records.records (fresh_of self.tables.contents)) in
    subst (λ (l : List Fresh). CountsLiveBatches IsRecordBatch l c.args.live.now c.loop-place.live) (take_all c.loop-place.place (fresh_in self) all) c.loop-place.invariant
