use Rattle.std.proofs.Common.{◌≡◌, ◌<◌, ◌≤◌, ◌+◌, length, take, get_or, ap, sym, ◌∙◌, subst, rules, inl, inr, arith, ℕ, List}
use Rattle.std.proofs.lemmas.List.{get_or_default}
use Rattle.odin_outside.specs.Disk.{IsCrashImage}
use Rattle.odin_memory.specs.declared.choice.Choice.{Choice}
use Rattle.odin_memory.specs.declared.disk.Entry.{Entry}
use Rattle.odin_memory.specs.declared.disk.Entry.TheVariants as entry
use Rattle.odin_memory.specs.Calls.{image_after, pending_after}
use Rattle.odin_memory.specs.Choices.{IsWhole}
use Rattle.odin_memory.specs.Entries.{calls_from_entries, bytes_left}
use Rattle.odin_memory.proofs.Replaying.{Turn, turn_torn, turn_whole, turn_left, whole_left, pending_at}
use Rattle.odin_memory.proofs.Undoing.{UndoesSoFar, undoes_all, undoes_early, undoes_late, whole_past, whole_tells}
use Rattle.odin_memory.proofs.replay.torn.Goals as goal
use Rattle.odin_memory.proofs.replay.torn.Goals.{then-place-pending+in_ok-tear, else-place-pending+in_ok-tear-2}

abbrev kept : (c : goal.Joined-place-pending) → Entry
kept c = get_or c.args.entries.now c.loop-place.place (entry.Write 0 0)

turn : (c : goal.Joined-place-pending) → Turn c.args.first.now c.args.entries.now c.args.written.now c.loop-place.bytes.now c.loop-place.place (kept c) c.split.result.0.now
turn c =
    let inside : c.loop-place.place < length c.args.entries.now = omega arith in
    record {
      within = c.requires.within;
      inside = inside;
      is = get_or_default c.args.entries.now c.loop-place.place (entry.Write 0 0) (kept c) inside;
      left = c.loop-place.invariant.0;
      here_is = c.split.ensures.here;
    }

left : (c : goal.Joined-place-pending) → c.split.result.1.now ≡ bytes_left (take (c.loop-place.place + 1) c.args.entries.now) c.args.written.now
left c = turn_left _ _ _ _ _ _ _ _ (turn c) c.split.ensures.rest

pub loop-place-preserved : goal.loop-place-preserved
loop-place-preserved c = elim c.if-place-pending.branch [
  | then-place-pending+in_ok-tear w ↦
      let early : c.loop-place.place ≤ c.args.pending = omega arith in
      let next : c.loop-place.place + 1 ≤ c.args.pending = omega arith in
      let whole : w.tear.new.image.items ≡ image_after c.args.first.now (calls_from_entries (take (c.loop-place.place + 1) c.args.entries.now) c.args.written.now) =
      turn_whole _ _ _ _ _ _ _ _ _ (turn c) (c.loop-place.invariant.4 (inl early)) (w.in_ok-tear.ensures.whole (whole_tells c.loop-place.whole (kept c) c.loop-place.invariant.1)) in
      let stays : IsWhole w.tear.new.choice = subst IsWhole (sym (w.tear.ensures.past (whole_tells c.loop-place.whole (kept c) c.loop-place.invariant.1))) (whole_past c.loop-place.whole (kept c) c.loop-place.invariant.1) in (
        ap (λ bytes. bytes.now) w.bytes-is ∙ left c,
        subst IsWhole (sym w.whole-is) stays,
        (λ is. subst IsWhole (sym w.choice-is) (c.loop-place.invariant.2 is)),
        whole_left c.args.first.now (calls_from_entries (take (c.loop-place.place + 1) c.args.entries.now) c.args.written.now) _ (ap (λ image. image.items) w.image-is ∙ whole),
        (λ _. ap (λ image. image.items) w.image-is ∙ whole),
        (λ _. w.choice-is ∙ c.loop-place.invariant.5 early),
        (λ undoes. undoes_early _ _ _ _ _ _ _ _ undoes (w.choice-is ∙ c.loop-place.invariant.5 early) next (ap (λ image. image.items) w.image-is ∙ whole)),
      )
  | else-place-pending+in_ok-tear-2 w ↦
      let late : c.args.pending ≤ c.loop-place.place = omega arith in
      let torn : IsCrashImage (pending_after c.args.first.now (calls_from_entries (take (c.loop-place.place + 1) c.args.entries.now) c.args.written.now)) w.tear-else-place-pending.new.image.items =
      turn_torn _ _ _ _ _ _ _ _ _ (turn c) (pending_at c.args.entries.now c.args.pending c.loop-place.place (kept c) c.requires.unsynced late (turn c).inside (turn c).is) c.loop-place.invariant.3 w.in_ok-tear-2.ensures.torn in (
        ap (λ bytes. bytes.now) w.bytes-is ∙ left c,
        subst IsWhole (sym w.whole-is) c.loop-place.invariant.1,
        (λ is. subst IsWhole (sym (w.choice-is ∙ w.tear-else-place-pending.ensures.past (whole_tells c.loop-place.choice (kept c) (c.loop-place.invariant.2 is)))) (whole_past c.loop-place.choice (kept c) (c.loop-place.invariant.2 is))),
        subst (λ (bytes : List ℕ). IsCrashImage (pending_after c.args.first.now (calls_from_entries (take (c.loop-place.place + 1) c.args.entries.now) c.args.written.now)) bytes) (sym (ap (λ image. image.items) w.image-is)) torn,
        (λ when. elim when [
          | inl before ↦ absurd (omega arith)
          | inr is ↦ ap (λ image. image.items) w.image-is ∙ turn_whole _ _ _ _ _ _ _ _ _ (turn c) (c.loop-place.invariant.4 (inr is)) (w.in_ok-tear-2.ensures.whole (whole_tells c.loop-place.choice (kept c) (c.loop-place.invariant.2 is)))
        ]),
        (λ before. absurd (omega arith)),
        (λ undoes.
            (let so_far : UndoesSoFar c.args.first.now c.args.entries.now c.args.written.now c.args.pending (c.loop-place.place + 1) w.tear-else-place-pending.new.choice w.tear-else-place-pending.new.image.items =
            undoes_late _ _ _ _ _ _ (kept c) _ c.loop-place.choice _ _ _ (turn c) late (c.loop-place.invariant.6 undoes) w.in_ok-tear-2.ensures.whole w.in_ok-tear-2.ensures.none w.tear-else-place-pending.ensures.past in
            subst (λ (choice : Choice). UndoesSoFar c.args.first.now c.args.entries.now c.args.written.now c.args.pending (c.loop-place.place + 1) choice _) (sym w.choice-is) (subst (λ (image : List ℕ). UndoesSoFar c.args.first.now c.args.entries.now c.args.written.now c.args.pending (c.loop-place.place + 1) w.tear-else-place-pending.new.choice image) (sym (ap (λ image. image.items) w.image-is)) so_far))),
      )
]

pub loop-place-init : goal.loop-place-init
loop-place-init c = (search rules, search rules, search rules, search rules, search rules, search rules, λ undoes. undoes_early _ _ _ _ _ _ _ _ undoes (search rules) (search rules) (search rules))

pub returns-clause-none : goal.returns-clause-none
returns-clause-none c = λ undoes.
    let end : c.loop-place.place ≡ length c.args.entries.now = omega arith in
    undoes_all _ _ _ _ _ _ _ end (c.loop-place.invariant.6 undoes)
