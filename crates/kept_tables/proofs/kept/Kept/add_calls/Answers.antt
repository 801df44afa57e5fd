use Rattle.std.proofs.Common.{◌≡◌, ◌<◌, length, sym, arith}
use Rattle.std.specs.Prelude.{Some, None, slice_get}
use Rattle.object_values.specs.declared.calls.Call.{Call}
use Rattle.object_values.specs.declared.calls.Outcome.{Outcome}
use Rattle.meaning_records.specs.Live.{IsKeptBatch}
use Rattle.kept_tables.proofs.LiveLemmas.{adds_next, adds_none, none_within}
use Rattle.kept_tables.proofs.kept.Kept.add_calls.Goals as goal
use Rattle.kept_tables.proofs.kept.Kept.add_calls.Goals.{in-Some+in_ok-add_call, in_default}

pub loop-place-init : goal.loop-place-init
loop-place-init c = adds_none IsKeptBatch c.args.live.now c.requires

pub loop-place-preserved : goal.loop-place-preserved
loop-place-preserved c = elim c.match-branch-2.branch [
  | in-Some+in_ok-add_call w ↦
      let calls = c.args.self.now.tables.calls in
      let kept : Call × Outcome = (w.in-Some.kept.call, w.in-Some.kept.outcome) in
      let at : slice_get calls c.loop-place.place ≡ Some kept = sym (rw w.in-Some.is at c.in_ok-kept.ensures) in
      rw w.live-is (adds_next IsKeptBatch calls c.loop-place.place kept c.args.live.now c.loop-place.live w.add_call.new.self at c.loop-place.invariant w.in_ok-add_call.ensures)
  | in_default w ↦
      let calls = c.args.self.now.tables.calls in
      let none : slice_get calls c.loop-place.place ≡ None = sym (rw w.in_default.is at c.in_ok-kept.ensures) in
      let within : c.loop-place.place < length calls = omega arith in
      absurd (none_within calls c.loop-place.place none within)
]
