-- The count of the tools' faults over replies, and what else stays of the tools.
use Rattle.std.proofs.Common.{◌≡◌, ◌≤◌, ℕ, inl, inr, ap, subst, arith}
use Rattle.odin_outside.specs.Causes.{IsCounted}
use Rattle.odin_outside.specs.Spawned.{Spawned}
use Rattle.object_values.specs.declared.nodes.Node.{Node}
use Rattle.meaning_graph.specs.Graphs.{Text, Graph}
use Rattle.meaning_derive.specs.Derive.{Sources, Outcomes, IsFounded}
use Rattle.meaning_derive.proofs.Lemmas.{no_chain}
use Rattle.meaning_records.specs.Tables.{Calls, kept_outcome}
use Rattle.object_values.specs.declared.replies.Reply.{Reply}
use Rattle.meaning_derive.specs.Answers.{Asks}
use Rattle.meaning_derive.proofs.Lemmas.{one_node}
use Rattle.derive_walk.specs.declared.found.Found.{Found}
use Rattle.derive_walk.specs.declared.found.Found.TheVariants as found
use Rattle.derive_walk.specs.Founds.{IsFound}
use Rattle.derive_walk.specs.Outcomes.{after}
use Rattle.derive_walk.proofs.Lemmas.{found_stays}
use Rattle.plain_derive.specs.Flights.{Course, on_course, off_course, for_chain, for_spawn, at_rest, AreRun}
use Rattle.plain_derive.specs.FlightLaws.{IsFlown, CountedOn}
use Rattle.plain_derive.proofs.Lemmas.{is_flown, counted_on}
use Rattle.kept_derive.specs.Runs.{course_of}
use Rattle.odin_answers.specs.Answers.{Agrees, IsDerived, IsDrained, HasAnswer, IsStartRefused, HaveFlown, IsReply, MayHaveBegun}

-- ---- counts

-- Off its course or on it the count never falls.
counted_later : (course : Course) (before now : Spawned) → CountedOn course before now → before.faults ≤ now.faults
counted_later on_course before now same = omega (arith, same)
counted_later (off_course for_chain) before now later = later
counted_later (off_course for_spawn) before now counted = counted.later

derived_counted : (g : Graph) (s : Sources) (kept : Calls) (limit : ℕ) (text : Text) (given : Calls) (before now : Spawned) → (d : IsDerived g s kept limit text given before now) → CountedOn (course_of d.found) before now
derived_counted g s kept limit text given before now d = counted_on g s (kept_outcome kept) d.node limit before (course_of d.found) (at_rest given now) d.run.flown

pub answer_later : (g : Graph) (s : Sources) (kept : Calls) (limit : ℕ) (text : Text) (reply : Reply) (given : Calls) (before now : Spawned) → HasAnswer g s kept limit text reply given before now → before.faults ≤ now.faults
answer_later g s kept limit text reply given before now answer = elim answer.did [
  | inl alone ↦ let e : now.faults ≡ before.faults = ap (λ (z : Spawned). z.faults) alone.told in omega (arith, e)
  | inr derived ↦ counted_later (course_of derived.found) before now (derived_counted g s kept limit text given before now derived)
]

-- where a view was found no fault was counted
found_counted : (g : Graph) (s : Sources) (outcomes : Outcomes) (n : Node) (f : Found) (before now : Spawned) → IsFounded g s outcomes n → IsFound g s outcomes n f → CountedOn (course_of f) before now → now.faults ≡ before.faults
found_counted g s outcomes n (found.Answer view) before now founded is same = same
found_counted g s outcomes n (found.Circular chain) before now founded is later = absurd (no_chain g s outcomes n founded chain (inl is))
found_counted g s outcomes n (found.Deep chain) before now founded is later = absurd (no_chain g s outcomes n founded chain (inr is))

pub answer_uncounted : (g : Graph) (s : Sources) (kept : Calls) (limit : ℕ) (text : Text) (reply : Reply) (given : Calls) (before now : Spawned) → HasAnswer g s kept limit text reply given before now
    → (n : Node) → Asks g text n → (outcomes : Outcomes) → Agrees kept given outcomes → IsFounded g s outcomes n → now.faults ≡ before.faults
answer_uncounted g s kept limit text reply given before now answer n asks outcomes agrees founded = elim answer.did [
  | inl alone ↦ ap (λ (z : Spawned). z.faults) alone.told
  | inr derived ↦ found_counted g s outcomes n derived.found before now founded
      (subst (λ m. IsFound g s outcomes m derived.found) (one_node g text n derived.node asks derived.asks) (found_stays g s (after (kept_outcome kept) given) outcomes agrees derived.node derived.found derived.is))
      (derived_counted g s kept limit text given before now derived)
]

pub refusal_counted : (g : Graph) (s : Sources) (kept : Calls) (limit : ℕ) (text : Text) (reply : Reply) (given : Calls) (before now : Spawned) → IsStartRefused g s kept limit text reply given before now → IsCounted before.faults now.faults
refusal_counted g s kept limit text reply given before now refused = counted_on g s (kept_outcome kept) refused.drained.node limit before (off_course for_spawn) (at_rest given now) refused.drained.run.flown

-- tools that ran, to their end or not
pub flown_later : (g : Graph) (s : Sources) (kept : Calls) (limit : ℕ) (text : Text) (given : Calls) (before now : Spawned) → HaveFlown g s kept limit text given before now → before.faults ≤ now.faults
flown_later g s kept limit text given before now have =
    counted_later have.flown.course before now (counted_on g s (kept_outcome kept) have.node limit before have.flown.course (record { running = have.flown.running; given = given; tools = now }) have.flown.flown)

pub begun_later : (g : Graph) (s : Sources) (kept : Calls) (limit : ℕ) (text : Text) (given : Calls) (before now : Spawned) → MayHaveBegun g s kept limit text given before now → before.faults ≤ now.faults
begun_later g s kept limit text given before now (inl untouched) = let e : now.faults ≡ before.faults = ap (λ (z : Spawned). z.faults) untouched.told in omega (arith, e)
begun_later g s kept limit text given before now (inr have) = flown_later g s kept limit text given before now have

-- no reply lets the count of faults fall
pub reply_later : (g : Graph) (s : Sources) (kept : Calls) (limit : ℕ) (text : Text) (reply : Reply) (given : Calls) (before now : Spawned) → IsReply g s kept limit text reply given before now → before.faults ≤ now.faults
reply_later g s kept limit text reply given before now (inl answered) = answer_later g s kept limit text reply given before now answered
reply_later g s kept limit text reply given before now (inr refused) = let counted = refusal_counted g s kept limit text reply given before now refused in counted.later

-- ---- what came, and answers

pub run_flown : (g : Graph) (s : Sources) (kept : Outcomes) (n : Node) (limit : ℕ) (course : Course) (given : Calls) (before now : Spawned) → AreRun g s kept n limit course given before now → IsFlown g s kept n before (at_rest given now)
run_flown g s kept n limit course given before now run = is_flown g s kept n limit before course (at_rest given now) run.flown

pub derived_flown : (g : Graph) (s : Sources) (kept : Calls) (limit : ℕ) (text : Text) (given : Calls) (before now : Spawned) → (d : IsDerived g s kept limit text given before now) → IsFlown g s (kept_outcome kept) d.node before (at_rest given now)
derived_flown g s kept limit text given before now d = run_flown g s (kept_outcome kept) d.node limit (course_of d.found) given before now d.run

pub drained_flown : (g : Graph) (s : Sources) (kept : Calls) (limit : ℕ) (text : Text) (given : Calls) (before now : Spawned) → (d : IsDrained g s kept limit text given before now) → IsFlown g s (kept_outcome kept) d.node before (at_rest given now)
drained_flown g s kept limit text given before now d = run_flown g s (kept_outcome kept) d.node limit (off_course for_spawn) given before now d.run

pub have_flown : (g : Graph) (s : Sources) (kept : Calls) (limit : ℕ) (text : Text) (given : Calls) (before now : Spawned) → (h : HaveFlown g s kept limit text given before now)
    → IsFlown g s (kept_outcome kept) h.node before (record { running = h.flown.running; given = given; tools = now })
have_flown g s kept limit text given before now h = is_flown g s (kept_outcome kept) h.node limit before h.flown.course (record { running = h.flown.running; given = given; tools = now }) h.flown.flown

pub begun_answer : (g : Graph) (s : Sources) (kept : Calls) (limit : ℕ) (text : Text) (given : Calls) (before now : Spawned) → MayHaveBegun g s kept limit text given before now → now.answer ≡ before.answer
begun_answer g s kept limit text given before now (inl untouched) = ap (λ (z : Spawned). z.answer) untouched.told
begun_answer g s kept limit text given before now (inr have) = let is = have_flown g s kept limit text given before now have in is.answer

pub reply_answer : (g : Graph) (s : Sources) (kept : Calls) (limit : ℕ) (text : Text) (reply : Reply) (given : Calls) (before now : Spawned) → IsReply g s kept limit text reply given before now → now.answer ≡ before.answer
reply_answer g s kept limit text reply given before now (inl answered) = elim answered.did [
  | inl alone ↦ ap (λ (z : Spawned). z.answer) alone.told
  | inr derived ↦ let is = derived_flown g s kept limit text given before now derived in is.answer
]
reply_answer g s kept limit text reply given before now (inr refused) = let is = drained_flown g s kept limit text given before now refused.drained in is.answer
