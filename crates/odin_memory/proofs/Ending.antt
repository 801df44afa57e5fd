-- The end of a tool at the next place: from what the calls gave, and as it is told.
use Rattle.std.proofs.Common.{◌≡◌, ℕ, suc, Some, take, ◌+◌, ◌<◌, ◌≤◌, List, [], ◌∷◌, ◌++◌, ap, sym, ◌∙◌, refl, length, get_or, drop, min, subst, arith, inl, inr}
use Rattle.std.specs.Prelude.{remove, slice_get}
use Rattle.std.proofs.Math.Nat.{mod-lt, eq-or-lt_of_le}
use Rattle.std.proofs.lemmas.List.{drop-drop, drop_all}
use Rattle.std.proofs.Math.Seq.{split_at}
use Rattle.std.proofs.lemmas.Option.{slice_get_read, slice_get_within, get_or_from_slice_get}
use Rattle.odin_outside.specs.declared.events.Running.{Running}
use Rattle.odin_outside.specs.declared.events.ToolEvent.{ToolEvent}
use Rattle.odin_outside.specs.declared.events.ToolEvent.TheVariants.{Ended, Lost}
use Rattle.object_values.specs.declared.jobs.Job.{Job}
use Rattle.object_values.specs.declared.jobs.Raw.{Raw}
use Rattle.odin_outside.specs.Causes.{IsCounted}
use Rattle.odin_outside.specs.Spawned.{StopsJob, Ends, Loses}
use Rattle.odin_memory.specs.Tools.{Tools, told_with, answer_to_job, place_among, next_place, ended, EndsNext, LosesNext}

-- a number of the order is used up, if one is left
pub used : (order : List ℕ) (ended next : ℕ) → ended ≤ length order → length order < 18446744073709551616 → next ≡ min (min (ended + 1) 18446744073709551615) (length order) → drop next order ≡ drop 1 (drop ended order)
used order ended next bound fits is = elim (eq-or-lt_of_le bound) [
  | inl all ↦
      let last : length order ≤ next = omega arith in
      let beyond : length order ≤ ended + 1 = omega arith in
      drop_all next order last ∙ sym (drop_all (ended + 1) order beyond) ∙ sym (drop-drop 1 ended order)
  | inr more ↦
      let step : next ≡ ended + 1 = omega arith in
      ap (λ n. drop n order) step ∙ sym (drop-drop 1 ended order)
]

pub place-lt : (order : List ℕ) (running : ℕ) → 0 < running → place_among order running < running
place-lt [] running some = some
place-lt (place ∷ order) running some = mod-lt place some

-- the tools with this rest of the order, without the one at the place, and with this event after the others
abbrev pub without : Tools → List ℕ → ℕ → ToolEvent → Tools
without old rest place event = record old { order = rest; running = remove old.running place; log = old.log ++ event ∷ [] }

pub after_next : (old : Tools) (place : ℕ) (rest : List ℕ) (event : ToolEvent) → place ≡ next_place old → rest ≡ drop 1 old.order → without old rest place event ≡ ended old event
after_next old place rest event placed rest_is =
    ap (λ (r : List ℕ). without old r place event) rest_is ∙ ap (λ (p : ℕ). without old (drop 1 old.order) p event) placed

-- What runs is cut at the next place. So many faults were counted by then.
pub told_stops : (old : Tools) (tool : Running) (event : ToolEvent) (before now : ℕ) → slice_get old.running (next_place old) ≡ Some tool → StopsJob (told_with before old) tool.slot tool.job event now (told_with now (ended old event))
told_stops old tool event before now next =
    let inside : next_place old < length old.running = slice_get_within old.running (next_place old) tool next in
    let here : get_or old.running (next_place old) tool ≡ tool = get_or_from_slice_get old.running (next_place old) tool tool next in
    record {
      before = take (next_place old) old.running;
      after = drop (suc (next_place old)) old.running;
      ran = split_at old.running (next_place old) tool inside ∙ ap (λ (t : Running). take (next_place old) old.running ++ t ∷ drop (suc (next_place old)) old.running) here;
      is = refl;
    }

pub read_next : (old : Tools) (place : ℕ) (tool : Running) → 0 < length old.running → place ≡ next_place old → tool ≡ get_or old.running place tool → slice_get old.running (next_place old) ≡ Some tool
read_next old place tool some is at =
    let inside : place < length old.running = subst (λ (p : ℕ). p < length old.running) (sym is) (place-lt old.order (length old.running) some) in
    ap (λ p. slice_get old.running p) (sym is) ∙ slice_get_read old.running (length old.running) place tool refl inside at

pub loses_next : (old new : Tools) (place : ℕ) (tool : Running) → 0 < length old.running → place ≡ next_place old → tool ≡ get_or old.running place tool → new ≡ ended old (Lost tool.slot) → LosesNext old tool.slot new
loses_next old new place tool some is at after = record { job = tool.job; next = read_next old place tool some is at; after = after }

pub ends_next : (old new : Tools) (place : ℕ) (tool : Running) (raw : Raw) → 0 < length old.running → place ≡ next_place old → tool ≡ get_or old.running place tool → raw ≡ answer_to_job old.answers tool.job → new ≡ ended old (Ended tool.slot) → EndsNext old tool.slot raw new
ends_next old new place tool raw some is at answer after = record { job = tool.job; next = read_next old place tool some is at; answer = answer; after = after }

stops_here : (old new : Tools) (slot : ℕ) (job : Job) (event : ToolEvent) (before now : ℕ) → slice_get old.running (next_place old) ≡ Some (record { slot = slot; job = job }) → new ≡ ended old event → StopsJob (told_with before old) slot job event now (told_with now new)
stops_here old new slot job event before now next after = subst (λ (t : Tools). StopsJob (told_with before old) slot job event now (told_with now t)) (sym after) (told_stops old (record { slot = slot; job = job }) event before now next)

pub told_loses : (old new : Tools) (slot before now : ℕ) → IsCounted before now → LosesNext old slot new → Loses (told_with before old) slot (told_with now new)
told_loses old new slot before now counted l = record { job = l.job; counted = counted; stops = stops_here old new slot l.job (Lost slot) before now l.next l.after }

pub told_ends : (old new : Tools) (slot : ℕ) (raw : Raw) (faults : ℕ) → EndsNext old slot raw new → Ends (told_with faults old) slot raw (told_with faults new)
told_ends old new slot raw faults e = record { job = e.job; stops = stops_here old new slot e.job (Ended slot) faults faults e.next e.after; leaves = e.answer }
