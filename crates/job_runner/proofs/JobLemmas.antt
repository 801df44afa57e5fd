-- Lists of calls that run.
use Rattle.std.proofs.Common.{◌≡◌, ◌≢◌, ◌<◌, ◌≤◌, ◌+◌, ℕ, zero, suc, List, [], ◌∷◌, ◌++◌, map, length, get_or, inl, inr, refl, sym, ap, subst, arith, length-append, ◌∙◌}
use Rattle.std.specs.Prelude.{Some, Any, take, remove}
use Rattle.object_values.specs.declared.calls.Call.{Call}
use Rattle.object_values.specs.declared.calls.Outcome.{Outcome}
use Rattle.object_values.specs.declared.jobs.Job.{Job}
use Rattle.object_values.specs.declared.jobs.Raw.{Raw}
use Rattle.odin_outside.specs.declared.events.Running.{Running}
use Rattle.odin_outside.specs.declared.events.ToolEvent.{ToolEvent}
use Rattle.odin_outside.specs.declared.events.ToolEvent.TheVariants.{Ended, Lost}
use Rattle.odin_outside.specs.Spawned.{Spawned, IsRunning, IsLeastFree, noted, StopsJob, Ends, Loses, IsAnswerToJob}
use Rattle.meaning_calls.specs.Jobs.{job_of}
use Rattle.meaning_calls.specs.Outcomes.{outcome_of, OutcomeFits}
use Rattle.meaning_texts.specs.Lists.{IsIn}
use Rattle.job_runner.specs.declared.jobs.Flying.{Flying}
use Rattle.job_runner.specs.Flights.{flying, calls_in, slots_in, tool_of, landed, AreTold, AreDistinct, InFlight, IsInFlight, HasEnded, HasLost, IsFirst}
use Rattle.job_runner.proofs.ListLemmas.{distinct_more, distinct_less, calls_one_more, slots_one_more, length_one_more, calls_cut, slots_cut, calls_both, slots_both}

runs_there : (running : List Flying) (slot : ℕ) → IsIn slot (slots_in running) → IsRunning (map tool_of running) slot
runs_there [] slot i = absurd i
runs_there (x ∷ running) slot (inl e) = (0, tool_of x, omega arith, refl, sym e)
runs_there (x ∷ running) slot (inr i) = let (k, tool, inside, at, holds) = runs_there running slot i in (suc k, tool, omega (arith, inside), at, holds)

-- None of these runs in a slot that is told to be free.
pub none_there : (slot : ℕ) (running : List Flying) (told : List Running) → told ≡ map tool_of running → IsLeastFree told slot → IsIn slot (slots_in running) → ⊥
none_there slot running told same free i = free.free (subst (λ l. IsRunning l slot) (sym same) (runs_there running slot i))

-- a call that didn't run, in a slot that was free
pub one_more : (limit slot : ℕ) (call : Call) (running : List Flying) (told : List Running) → IsInFlight limit running → told ≡ map tool_of running → IsLeastFree told slot
    → (IsIn call (calls_in running) → ⊥) → length running < limit → IsInFlight limit (running ++ flying slot call ∷ [])
one_more limit slot call running told is same free new room = record {
  once = subst AreDistinct (sym (calls_one_more running (flying slot call))) (distinct_more (calls_in running) call is.once new);
  apart = subst AreDistinct (sym (slots_one_more running (flying slot call))) (distinct_more (slots_in running) slot is.apart (none_there slot running told same free));
  few = let longer = length_one_more running (flying slot call) in omega (arith, room, longer);
}

-- ---- an end

-- a slot that is told runs one of these
told_there : (running : List Flying) (b a : List Running) (t : Running) → map tool_of running ≡ b ++ t ∷ a → IsIn t.slot (slots_in running)
told_there [] [] a t e = cc
told_there [] (y ∷ b) a t e = cc
told_there (x ∷ running) [] a t e = let same : tool_of x ≡ t = cc in inl (ap (λ (z : Running). z.slot) (sym same))
told_there (x ∷ running) (y ∷ b) a t e = let rest : map tool_of running ≡ b ++ t ∷ a = cc in inr (told_there running b a t rest)

-- The tool that is told to have stopped is that of the call in its slot.
pub aligned : (front back : List Flying) (f : Flying) (b a : List Running) (t : Running) → map tool_of (front ++ f ∷ back) ≡ b ++ t ∷ a → f.slot ≡ t.slot
    → (IsIn t.slot (slots_in front) → ⊥) → AreDistinct (slots_in (front ++ f ∷ back)) → (b ++ a ≡ map tool_of (front ++ back)) × (tool_of f ≡ t)
aligned [] back f [] a t e same before apart = let rest : a ≡ map tool_of back = cc in (rest, cc)
aligned [] back f (y ∷ b) a t e same before apart = let rest : map tool_of back ≡ b ++ t ∷ a = cc in absurd (apart.0 (subst (λ k. IsIn k (slots_in back)) (sym same) (told_there back b a t rest)))
aligned (x ∷ front) back f [] a t e same before apart = let first : tool_of x ≡ t = cc in absurd (before (inl (ap (λ (z : Running). z.slot) (sym first))))
aligned (x ∷ front) back f (y ∷ b) a t e same before apart =
    let rest : map tool_of (front ++ f ∷ back) ≡ b ++ t ∷ a = cc in
    let first : tool_of x ≡ y = cc in
    let more = aligned front back f b a t rest same (λ i. before (inr i)) apart.1 in
    ((λ i. sym first i ∷ more.0 i), more.1)

module _ (old : InFlight) (before : Spawned) (told : AreTold old.running before) (apart : AreDistinct (slots_in old.running)) where
  -- the call whose tool has stopped, and what is told then
  pub stopped : (slot faults : ℕ) (job : Job) (event : ToolEvent) (f : Flying) (new : InFlight) (now : Spawned) → StopsJob before slot job event faults now → IsFirst slot old new f
      → (now ≡ landed before new.running event faults) × (job ≡ job_of f.call)
  stopped slot faults job event f new now stops first =
      let is : map tool_of (first.out.front ++ f ∷ first.out.back) ≡ stops.before ++ (record { slot = slot; job = job }) ∷ stops.after =
      subst (λ l. map tool_of l ≡ stops.before ++ (record { slot = slot; job = job }) ∷ stops.after) (first.out.was ∙ ap (λ k. first.out.front ++ flying k f.call ∷ first.out.back) (sym first.here)) (sym told ∙ stops.ran) in
      let all = subst (λ l. AreDistinct (slots_in l)) (first.out.was ∙ ap (λ k. first.out.front ++ flying k f.call ∷ first.out.back) (sym first.here)) apart in
      let at = aligned first.out.front first.out.back f stops.before stops.after (record { slot = slot; job = job }) is first.here first.before all in
      let running : new.running ≡ first.out.front ++ first.out.back = ap (λ (z : InFlight). z.running) first.out.is in
      (stops.is ∙ ap (λ l. record before { running = l; log = noted before.log event; faults = faults }) (at.0 ∙ ap (map tool_of) (sym running)), ap (λ (z : Running). z.job) (sym at.1))

  pub finishes : (slot : ℕ) (raw : Raw) (outcome : Outcome) (f : Flying) (new : InFlight) (now : Spawned) → Ends before slot raw now → IsFirst slot old new f
      → outcome ≡ outcome_of f.call raw → OutcomeFits f.call outcome → HasEnded f.call outcome old before new now
  finishes slot raw outcome f new now ends first is fits =
      let at = stopped slot before.faults ends.job (Ended slot) f new now ends.stops first in
      record {
        slot = slot;
        out = first.out;
        told = at.0;
        came = record {
          fits = fits;
          told = λ table answer. ap Some (sym (is ∙ ap (outcome_of f.call) (subst (λ o. IsAnswerToJob o ends.job raw) answer ends.leaves ∙ ap table at.1)));
        };
      }

  pub loses : (slot : ℕ) (f : Flying) (new : InFlight) (now : Spawned) → Loses before slot now → IsFirst slot old new f → HasLost old before new now
  loses slot f new now lost first = record {
    slot = slot;
    call = f.call;
    out = first.out;
    counted = lost.counted;
    told = (stopped slot now.faults lost.job (Lost slot) f new now lost.stops first).0;
  }

  -- some call runs in a slot that is told to have stopped
  pub slot_there : (slot faults : ℕ) (job : Job) (event : ToolEvent) (now : Spawned) → StopsJob before slot job event faults now → IsIn slot (slots_in old.running)
  slot_there slot faults job event now stops = told_there old.running stops.before stops.after (record { slot = slot; job = job }) (sym told ∙ stops.ran)

-- ---- the place of a slot

-- an item at its place, and what its removal leaves
pub record IsCutAt (xs : List Flying) (k : ℕ) (x : Flying) : Type 0 where
  pub back : List Flying
  pub was : xs ≡ take k xs ++ x ∷ back
  pub is : remove xs k ≡ take k xs ++ back

pub cut_at : (xs : List Flying) (k : ℕ) (x : Flying) → k < length xs → x ≡ get_or xs k x → IsCutAt xs k x
cut_at [] k x inside at = absurd (omega (arith, inside))
cut_at (y ∷ xs) zero x inside at = record { back = xs; was = ap (λ z. z ∷ xs) (sym at); is = refl }
cut_at (y ∷ xs) (suc k) x inside at =
    let more = cut_at xs k x (omega (arith, inside)) at in
    record { back = more.back; was = ap (λ l. y ∷ l) more.was; is = ap (λ l. y ∷ l) more.is }

-- no slot of the first ones is this one
abbrev pub NoneBefore : List Flying → ℕ → ℕ → Type 0
NoneBefore xs slot k = IsIn slot (slots_in (take k xs)) → ⊥

pub none_further : (xs : List Flying) (slot k : ℕ) (x : Flying) → k < length xs → x ≡ get_or xs k x → x.slot ≢ slot → NoneBefore xs slot k → NoneBefore xs slot (suc k)
none_further [] slot k x inside at other none i = absurd (omega (arith, inside))
none_further (y ∷ xs) slot zero x inside at other none (inl e) = other (ap (λ (z : Flying). z.slot) at ∙ sym e)
none_further (y ∷ xs) slot zero x inside at other none (inr i) = i
none_further (y ∷ xs) slot (suc k) x inside at other none (inl e) = none (inl e)
none_further (y ∷ xs) slot (suc k) x inside at other none (inr i) = none_further xs slot k x (omega (arith, inside)) at other (λ j. none (inr j)) i

pub none_at_all : (xs : List Flying) (slot k : ℕ) → length xs ≤ k → NoneBefore xs slot k → IsIn slot (slots_in xs) → ⊥
none_at_all [] slot k all none i = i
none_at_all (y ∷ xs) slot zero all none i = absurd (omega (arith, all))
none_at_all (y ∷ xs) slot (suc k) all none (inl e) = none (inl e)
none_at_all (y ∷ xs) slot (suc k) all none (inr i) = none_at_all xs slot k (omega (arith, all)) (λ j. none (inr j)) i

-- one less runs
pub one_less : (limit k : ℕ) (x : Flying) (xs ys : List Flying) → IsInFlight limit xs → ys ≡ remove xs k → IsCutAt xs k x → IsInFlight limit ys
one_less limit k x xs ys is removed cut =
    let left : ys ≡ take k xs ++ cut.back = removed ∙ cut.is in
    record {
      once = subst AreDistinct (sym (ap calls_in left ∙ calls_both (take k xs) cut.back)) (distinct_less (calls_in (take k xs)) (calls_in cut.back) x.call (subst AreDistinct (ap calls_in cut.was ∙ calls_cut (take k xs) cut.back x) is.once));
      apart = subst AreDistinct (sym (ap slots_in left ∙ slots_both (take k xs) cut.back)) (distinct_less (slots_in (take k xs)) (slots_in cut.back) x.slot (subst AreDistinct (ap slots_in cut.was ∙ slots_cut (take k xs) cut.back x) is.apart));
      few = omega (arith, is.few, ap length cut.was, ap length left, length-append (take k xs) (x ∷ cut.back), length-append (take k xs) cut.back);
    }

pub taken : (limit slot k : ℕ) (x : Flying) (xs ys : List Flying) → ys ≡ remove xs k → IsCutAt xs k x → x.slot ≡ slot → NoneBefore xs slot k
    → IsFirst slot (record { limit = limit; running = xs }) (record { limit = limit; running = ys }) x
taken limit slot k x xs ys removed cut here none = record {
  out = record {
    front = take k xs;
    back = cut.back;
    was = cut.was ∙ ap (λ (n : ℕ). take k xs ++ flying n x.call ∷ cut.back) here;
    is = ap (λ (l : List Flying). record { limit = limit; running = l }) (removed ∙ cut.is);
  };
  before = none;
  here = here;
}

-- ---- whether a call runs

pub any_call : (running : List Flying) (call : Call) → Any (λ (f : Flying). f.call ≡ call) running → IsIn call (calls_in running)
any_call [] call (k, f, inside, at, holds) = absurd (omega (arith, inside))
any_call (x ∷ running) call (zero, f, inside, at, holds) = inl (sym (ap (λ (z : Flying). z.call) at ∙ holds))
any_call (x ∷ running) call (suc k, f, inside, at, holds) = inr (any_call running call (k, f, omega (arith, inside), at, holds))

pub call_any : (running : List Flying) (call : Call) → IsIn call (calls_in running) → Any (λ (f : Flying). f.call ≡ call) running
call_any [] call i = absurd i
call_any (x ∷ running) call (inl e) = (0, x, omega arith, refl, sym e)
call_any (x ∷ running) call (inr i) = let (k, f, inside, at, holds) = call_any running call i in (suc k, f, omega (arith, inside), at, holds)

pub none_on : (xs : List Flying) (slot k : ℕ) (x : Flying) → k < length xs → x ≡ get_or xs k x → x.slot ≢ slot → NoneBefore xs slot k → NoneBefore xs slot (k + 1)
none_on xs slot k x inside at other none = let e : suc k ≡ k + 1 = omega arith in subst (λ m. NoneBefore xs slot m) e (none_further xs slot k x inside at other none)
