use Rattle.std.proofs.Common.{◌≡◌, ◌≤◌, ◌<◌, List, length, sym, subst, arith}
use Rattle.std.specs.Prelude.{Some, slice_get}
use Rattle.std.specs.FinMap as names
use Rattle.std.proofs.lemmas.List.{take_all}
use Rattle.object_values.specs.Texts.{Text}
use Rattle.meaning_records.specs.Live.{IsSourceBatch}
use Rattle.kept_tables.specs.Batching.{AddsLiveBatches}
use Rattle.kept_tables.proofs.LiveLemmas.{adds_next, adds_none, none_within}
use Rattle.kept_tables.proofs.live_batches.LiveBatches.add_sources.Goals as goal
use Rattle.kept_tables.proofs.live_batches.LiveBatches.add_sources.Goals.{in-Some+in_ok-add_source, in_default}

pub loop-place-init : goal.loop-place-init
loop-place-init c = adds_none IsSourceBatch c.args.self.now c.requires

pub loop-place-preserved : goal.loop-place-preserved
loop-place-preserved c = elim c.match-at.branch [
  | in-Some+in_ok-add_source w ↦
      let entries = names.entries c.args.sources.now.texts in
      let source : Text × Text = (w.in-Some.name.now, w.in-Some.text.now) in
      let at : slice_get entries c.loop-place.place ≡ Some source = sym w.in-Some.ensures in
      rw w.self-is (adds_next IsSourceBatch entries c.loop-place.place source c.args.self.now c.loop-place.self w.add_source.new.self at c.loop-place.invariant w.in_ok-add_source.ensures)
  | in_default w ↦
      let entries = names.entries c.args.sources.now.texts in
      let within : c.loop-place.place < length entries = omega (arith, names.len-entries c.args.sources.now.texts) in
      absurd (none_within entries c.loop-place.place (sym w.in_default.ensures) within)
]

pub returns : goal.returns
returns c =
    let entries = names.entries c.args.sources.now.texts in
    let all : length entries ≤ c.loop-place.place = omega (arith, names.len-entries c.args.sources.now.texts) in
    subst (λ (l : List (Text × Text)). AddsLiveBatches IsSourceBatch l c.args.self.now c.loop-place.self) (take_all c.loop-place.place entries all) c.loop-place.invariant
