-- What is started over a flight: calls of the node that are not kept, each once, and no others.
use Rattle.std.proofs.Common.{◌≡◌, ◌≤◌, ◌+◌, ◌⊎◌, ℕ, List, [], ◌∷◌, ◌++◌, map, length, inl, inr, refl, sym, ap, subst, arith, length-append, append_assoc, ◌∙◌}
use Rattle.std.specs.Prelude.{min, Option, Some, None}
use Rattle.std.proofs.lemmas.List.{append-nil}
use Rattle.object_values.specs.declared.nodes.Node.{Node}
use Rattle.object_values.specs.declared.calls.Call.{Call}
use Rattle.object_values.specs.declared.calls.Outcome.{Outcome}
use Rattle.object_values.specs.declared.jobs.Job.{Job}
use Rattle.odin_outside.specs.declared.events.ToolEvent.{ToolEvent}
use Rattle.odin_outside.specs.declared.events.ToolEvent.TheVariants.{Began, Ended, Lost}
use Rattle.odin_outside.specs.Causes.{last_count}
use Rattle.odin_outside.specs.Spawned.{Spawned, noted}
use Rattle.meaning_texts.specs.Lists.{IsIn}
use Rattle.meaning_texts.proofs.Lemmas.{in_left, in_right, in_either}
use Rattle.meaning_calls.specs.Jobs.{job_of}
use Rattle.meaning_graph.specs.Graphs.{Graph}
use Rattle.meaning_derive.specs.Derive.{Sources, Outcomes, derived}
use Rattle.meaning_derive.specs.Calls.{IsCallFrom}
use Rattle.meaning_derive.proofs.Lemmas.{kept as calls_stay}
use Rattle.derive_walk.specs.Outcomes.{after}
use Rattle.job_runner.specs.declared.jobs.Flying.{Flying}
use Rattle.job_runner.specs.Flights.{flying, calls_in}
use Rattle.job_runner.proofs.Lemmas.{call_goes_on, call_left, call_there}
use Rattle.plain_derive.specs.Given.{calls_of}
use Rattle.plain_derive.specs.Flights.{Flight, ends, loses, Course, on_course, off_course, Flies}
use Rattle.plain_derive.specs.FlightLaws.{started_in, LogHas, HasStarted, OnlyNeededStarts}
use Rattle.plain_derive.proofs.GivenLemmas.{one_more_call}
use Rattle.plain_derive.proofs.KeptLemmas.{then_more, one_more_known, not_among, kept_none}
use Rattle.plain_derive.proofs.MadeLemmas.{once_more}
use Rattle.plain_derive.proofs.FlightLemmas.{full_waits, flown_given}

-- ---- the starts among events

started_more : (events : List ToolEvent) (slot : ℕ) (job : Job) → started_in (events ++ Began slot job ∷ []) ≡ started_in events ++ job ∷ []
started_more [] slot job = refl
started_more (Began k j ∷ events) slot job = ap (λ l. j ∷ l) (started_more events slot job)
started_more (Ended k ∷ events) slot job = started_more events slot job
started_more (Lost k ∷ events) slot job = started_more events slot job

started_same : (events : List ToolEvent) (event : ToolEvent) → started_in (event ∷ []) ≡ [] → started_in (events ++ event ∷ []) ≡ started_in events
started_same [] event none = none
started_same (Began k j ∷ events) event none = ap (λ l. j ∷ l) (started_same events event none)
started_same (Ended k ∷ events) event none = started_same events event none
started_same (Lost k ∷ events) event none = started_same events event none

pub jobs_more : (calls : List Call) (call : Call) → ◌≡◌ {A = List Job} (map job_of (calls ++ call ∷ [])) (map job_of calls ++ job_of call ∷ [])
jobs_more [] call = refl
jobs_more (c ∷ calls) call = ap (λ (l : List Job). job_of c ∷ l) (jobs_more calls call)

log_none : (front : Option (List ToolEvent)) → LogHas front front []
log_none None = refl
log_none (Some front) = ([], ap (λ (l : List ToolEvent). Some l) (sym (append-nil front)), refl)

log_began : (front now : Option (List ToolEvent)) (calls : List Call) (slot : ℕ) (call : Call) → LogHas front now calls → LogHas front (noted now (Began slot (job_of call))) (calls ++ call ∷ [])
log_began None now calls slot call has = ap (λ o. noted o (Began slot (job_of call))) has
log_began (Some front) now calls slot call has = (
  has.0 ++ Began slot (job_of call) ∷ [],
  ap (λ o. noted o (Began slot (job_of call))) has.1 ∙ ap (λ (l : List ToolEvent). Some l) (append_assoc front has.0 (Began slot (job_of call) ∷ [])),
  started_more has.0 slot (job_of call) ∙ ap (λ (l : List Job). l ++ job_of call ∷ []) has.2 ∙ sym (jobs_more calls call),
)

log_same : (front now : Option (List ToolEvent)) (calls : List Call) (event : ToolEvent) → started_in (event ∷ []) ≡ [] → LogHas front now calls → LogHas front (noted now event) calls
log_same None now calls event none has = ap (λ o. noted o event) has
log_same (Some front) now calls event none has = (
  has.0 ++ event ∷ [],
  ap (λ o. noted o event) has.1 ∙ ap (λ (l : List ToolEvent). Some l) (append_assoc front has.0 (event ∷ [])),
  started_same has.0 event none ∙ has.2,
)

module _ (g : Graph) (s : Sources) (kept : Outcomes) (n : Node) (limit : ℕ) (before : Spawned) where
  -- ---- one event

  abbrev after_end : (o : Flight) (rest : List Flying) (slot : ℕ) (call : Call) (outcome : Outcome) → after kept o.given call ≡ None → HasStarted g s kept n before o → HasStarted g s kept n before (ends o rest slot call outcome)
  after_end o rest slot call outcome none has = record {
    calls = has.calls;
    once = has.once;
    none = has.none;
    each = λ outcomes more. has.each outcomes (then_more (after kept o.given) (after kept (o.given ++ (call, outcome) ∷ [])) outcomes (one_more_known kept o.given call outcome none) more);
    starts = has.starts;
    log = log_same before.log o.tools.log has.calls (Ended slot) refl has.log;
  }

  after_loss : (o : Flight) (rest : List Flying) (slot faults : ℕ) → HasStarted g s kept n before o → HasStarted g s kept n before (loses o rest slot faults)
  after_loss o rest slot faults has = record {
    calls = has.calls;
    once = has.once;
    none = has.none;
    each = has.each;
    starts = has.starts;
    log = log_same before.log o.tools.log has.calls (Lost slot) refl has.log;
  }

  -- ---- on its course

  -- What was started on its course is just what came or runs.
  record HasStartedThere (f : Flight) : Type 0 where
    has : HasStarted g s kept n before f
    there : (call : Call) → IsIn call has.calls → IsIn call (calls_of f.given) ⊎ IsIn call (calls_in f.running)

  starts_there : (f : Flight) → Flies g s kept n limit before on_course f → HasStartedThere f
  starts_there f Flies.none_flown = record {
    has = record {
      calls = [];
      once = tt;
      none = λ call i. absurd i;
      each = λ outcomes more call i. absurd i;
      starts = λ small. omega (arith, small);
      log = log_none before.log;
    };
    there = λ call i. absurd i;
  }
  starts_there f (Flies.one_began o slot call flown may free) =
      let so = starts_there o flown in
      let is_last : (c : Call) → IsIn c (so.has.calls ++ call ∷ []) → IsIn c so.has.calls ⊎ (c ≡ call) = λ c i. elim (in_either c so.has.calls (call ∷ []) i) [ inl j ↦ inl j | inr (inl e) ↦ inr e | inr (inr none) ↦ absurd none ] in
      record {
        has = record {
          calls = so.has.calls ++ call ∷ [];
          once = once_more so.has.calls call so.has.once (λ i. elim (so.there call i) [ inl j ↦ not_among g s kept n o.given call may.waits.outside j | inr j ↦ may.new j ]);
          none = λ c i. elim (is_last c i) [
            | inl j ↦ so.has.none c j
            | inr e ↦ subst (λ z. kept z ≡ None) (sym e) (kept_none g s kept n o.given (flown_given g s kept n limit before on_course o flown) call may.waits.outside)
          ];
          each = λ outcomes more c i. elim (is_last c i) [
            | inl j ↦ so.has.each outcomes more c j
            | inr e ↦ subst (IsCallFrom g (derived g s outcomes) n) (sym e) ((calls_stay g s (after kept o.given) outcomes more n).calls call may.waits.from)
          ];
          starts = λ small. let old = so.has.starts small in omega (arith, old, length-append so.has.calls (call ∷ []));
          log = log_began before.log o.tools.log so.has.calls slot call so.has.log;
        };
        there = λ c i. elim (is_last c i) [
          | inl j ↦ elim (so.there c j) [ inl k ↦ inl k | inr k ↦ inr (call_goes_on o.running (flying slot call ∷ []) c k) ]
          | inr e ↦ inr (subst (λ z. IsIn z (calls_in (o.running ++ flying slot call ∷ []))) (sym e) (call_there slot call o.running []))
        ];
      }
  starts_there f (Flies.one_ended o front back slot call outcome flown is full clear came) =
      let so = starts_there o flown in
      record {
        has = after_end o (front ++ back) slot call outcome (full_waits g s kept n limit before o front back slot call is full).outside so.has;
        there = λ c i. elim (so.there c i) [
          | inl j ↦ inl (subst (IsIn c) (sym (one_more_call o.given call outcome)) (in_left c (calls_of o.given) (call ∷ []) j))
          | inr j ↦ elim (call_left front back (flying slot call) c (subst (λ l. IsIn c (calls_in l)) is j)) [
            | inl k ↦ inr k
            | inr e ↦ inl (subst (IsIn c) (sym (one_more_call o.given call outcome)) (in_right c (calls_of o.given) (call ∷ []) (inl e)))
          ]
        ];
      }

  -- ---- on it or off it

  pub starts_so : (course : Course) (f : Flight) → Flies g s kept n limit before course f → HasStarted g s kept n before f
  starts_so way f Flies.none_flown = (starts_there f Flies.none_flown).has
  starts_so way f (Flies.one_began o slot call flown may free) = (starts_there f (Flies.one_began o slot call flown may free)).has
  starts_so way f (Flies.one_ended o front back slot call outcome flown is full clear came) = after_end o (front ++ back) slot call outcome (full_waits g s kept n limit before o front back slot call is full).outside (starts_so on_course o flown)
  starts_so way f (Flies.chain_found o flown refused) = starts_so on_course f flown
  starts_so way f (Flies.start_refused o call tools flown may fails) =
      let has = starts_so on_course o flown in
      record {
        calls = has.calls;
        once = has.once;
        none = has.none;
        each = has.each;
        starts = λ small. ap (λ (z : Spawned). z.starts) fails.is ∙ has.starts small;
        log = subst (λ l. LogHas before.log l has.calls) (sym (ap (λ (z : Spawned). z.log) fails.is)) has.log;
      }
  starts_so way f (Flies.end_lost o front back slot call faults flown is full clear counted) = after_loss o (front ++ back) slot faults (starts_so on_course o flown)
  starts_so way f (Flies.one_drained why o front back slot call outcome flown is waits came) = after_end o (front ++ back) slot call outcome waits.outside (starts_so (off_course why) o flown)
  starts_so way f (Flies.drain_lost why o front back slot call faults flown is counted) = after_loss o (front ++ back) slot faults (starts_so (off_course why) o flown)

  -- On its course each call that came or runs was started, and nothing else, as far as the number goes.
  pub flown_starts : (f : Flight) → before.starts ≤ last_count → Flies g s kept n limit before on_course f → f.tools.starts ≡ min (before.starts + (length f.given + length f.running)) last_count
  flown_starts f small Flies.none_flown = omega (arith, small)
  flown_starts f small (Flies.one_began o slot call flown may free) = let old = flown_starts o small flown in omega (arith, old, length-append o.running (flying slot call ∷ []))
  flown_starts f small (Flies.one_ended o front back slot call outcome flown is full clear came) =
      let old = flown_starts o small flown in
      omega (arith, old, length-append o.given ((call, outcome) ∷ []), ap length is, length-append front (flying slot call ∷ back), length-append front back)

pub only_needed_starts : OnlyNeededStarts
only_needed_starts g s kept n limit before course f flown = starts_so g s kept n limit before course f flown
