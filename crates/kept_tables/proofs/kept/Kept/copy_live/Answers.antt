use Rattle.std.proofs.Common.{◌≡◌, ◌∙◌, List, ap, reverse, subst, sym}
use Rattle.object_values.specs.declared.views.Value.{Value}
use Rattle.kept_contents.specs.Stocks.{values_of_contents}
use Rattle.meaning_records.specs.Live.{AreLive, MayLive, live_state}
use Rattle.kept_tables.specs.Live.{live_in}
use Rattle.kept_tables.proofs.CopyLemmas.{reads_short}
use Rattle.kept_tables.proofs.kept.Kept.copy_live.Goals as goal

pub returns-clause-live : goal.returns-clause-live
returns-clause-live c =
    let live = c.in_ok-live.live in
    let same : values_of_contents (reverse c.in_ok-added.added.items) ≡ values_of_contents live.added = c.in_ok-added.ensures.same ∙ ap values_of_contents c.as_slice.ensures in
    record {
      batches = live.batches;
      live = subst (λ (l : List Value). AreLive (live_in c.args.graph.now c.args.sources.now.texts c.args.self.now) live.batches l) (sym same) c.in_ok-live.ensures.live;
      payloads = c.in_ok-payloads.ensures.payloads;
    }

pub returns-clause-reads : goal.returns-clause-reads
returns-clause-reads c =
    let live = c.in_ok-live.live in
    let whole = live_in c.args.graph.now c.args.sources.now.texts c.args.self.now in
    let contents = values_of_contents (reverse c.in_ok-added.added.items) in
    let same : contents ≡ values_of_contents live.added = c.in_ok-added.ensures.same ∙ ap values_of_contents c.as_slice.ensures in
    let are = subst (λ (l : List Value). AreLive whole live.batches l) (sym same) c.in_ok-live.ensures.live in
    let may : MayLive whole = record { sources = c.requires; calls = c.come_one_by_one.ensures; records = c.may_be_noted.ensures.may; once = c.stand_as_noted.ensures } in
    rw c.in_ok-payloads.ensures.payloads (c.live_batches_read.ensures whole live.batches contents may c.in_ok-payloads.ensures.fits are)

pub returns-clause-may : goal.returns-clause-may
returns-clause-may c =
    let live = c.in_ok-live.live in
    let whole = live_in c.args.graph.now c.args.sources.now.texts c.args.self.now in
    let contents = values_of_contents (reverse c.in_ok-added.added.items) in
    let same : contents ≡ values_of_contents live.added = c.in_ok-added.ensures.same ∙ ap values_of_contents c.as_slice.ensures in
    let are = subst (λ (l : List Value). AreLive whole live.batches l) (sym same) c.in_ok-live.ensures.live in
    let may : MayLive whole = record { sources = c.requires; calls = c.come_one_by_one.ensures; records = c.may_be_noted.ensures.may; once = c.stand_as_noted.ensures } in
    let reads = c.live_batches_read.ensures whole live.batches contents may c.in_ok-payloads.ensures.fits are in
    record {
      held = c.in_ok-added.ensures.held;
      room = c.in_ok-added.ensures.room;
      few = c.in_ok-added.ensures.few;
      short = reads_short _ (live_state whole contents) reads;
      notes = rw (c.hold_copied.ensures.tables, c.hold_copied.ensures.records, same) c.in_ok-live.ensures.notes;
    }
