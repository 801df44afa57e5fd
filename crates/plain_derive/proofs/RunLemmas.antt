-- One child program that runs alone.
use Rattle.std.proofs.Common.{◌≡◌, ℕ, zero, suc, List, [], ◌∷◌, ◌++◌, inl, inr, sym, ap, ◌∙◌, subst, refl, arith}
use Rattle.std.specs.Prelude.{Some, Result, Err, IfErr}
use Rattle.object_values.specs.declared.calls.Call.{Call}
use Rattle.object_values.specs.declared.calls.Outcome.{Outcome}
use Rattle.object_values.specs.declared.jobs.Job.{Job}
use Rattle.object_values.specs.declared.jobs.Raw.{Raw}
use Rattle.odin_outside.specs.declared.events.Running.{Running}
use Rattle.odin_outside.specs.declared.events.ToolEvent.{ToolEvent}
use Rattle.odin_outside.specs.declared.events.ToolEvent.TheVariants.{Ended, Lost}
use Rattle.odin_outside.specs.declared.spawner.FinishFault.{FinishFault}
use Rattle.odin_outside.specs.declared.spawner.FinishFault.TheVariants.{Failed, Memory}
use Rattle.meaning_calls.specs.Jobs.{job_of}
use Rattle.meaning_calls.specs.Outcomes.{outcome_of}
use Rattle.meaning_derive.specs.Given.{table_outcomes}
use Rattle.job_runner.specs.declared.fault.JobFault.{JobFault}
use Rattle.job_runner.specs.Faults.{job_fault_of_finish}
use Rattle.plain_derive.specs.Logs.{spawned_after_start, closed, HasLostEnd, IsCut}
use Rattle.odin_outside.specs.Causes.{IsCounted}
use Rattle.odin_outside.specs.Spawned.{Table, Spawned, IsRunning, IsLeastFree, begun, noted, StopsJob, Ends, Loses, IsAnswerToJob}

record IsAlone {A : Type 0} (x y : A) (before after : List A) : Type 0 where
  same : x ≡ y
  first : before ≡ []
  last : after ≡ []

alone : {A : Type 0} (x y : A) (before after : List A) → x ∷ [] ≡ before ++ y ∷ after → IsAlone x y before after
alone x y [] after e = record { same = cc; first = refl; last = cc }
alone x y (z ∷ []) after e = cc
alone x y (z ∷ w ∷ before) after e = cc

-- What one that was started alone leaves when it stops.
pub record IsStopped (old : Spawned) (slot ended : ℕ) (job ran : Job) (new : Spawned) : Type 0 where
  pub same : job ≡ ran
  pub here : slot ≡ ended
  pub idle : new.running ≡ []
  pub answer : new.answer ≡ old.answer

pub stopped : (old mid new : Spawned) (slot ended : ℕ) (job ran : Job) (event : ToolEvent) (faults : ℕ) → old.running ≡ [] → mid ≡ begun old slot job → StopsJob mid ended ran event faults new → IsStopped old slot ended job ran new
stopped old mid new slot ended job ran event faults idle start stops =
    let tool : Running = record { slot = slot; job = job } in
    let other : Running = record { slot = ended; job = ran } in
    let one : tool ∷ [] ≡ stops.before ++ other ∷ stops.after = ap (λ l. l ++ tool ∷ []) (sym idle) ∙ sym (ap (λ (z : Spawned). z.running) start) ∙ stops.ran in
    let a = alone tool other stops.before stops.after one in
    record {
      same = ap (λ (z : Running). z.job) a.same;
      here = ap (λ (z : Running). z.slot) a.same;
      idle = ap (λ (z : Spawned). z.running) stops.is ∙ ap (λ l. l ++ stops.after) a.first ∙ a.last;
      answer = ap (λ (z : Spawned). z.answer) stops.is ∙ ap (λ (z : Spawned). z.answer) start;
    }

-- what it left is the answer to its job
pub left : (old mid new : Spawned) (slot ended : ℕ) (job : Job) (raw : Raw) → old.running ≡ [] → mid ≡ begun old slot job → Ends mid ended raw new → (table : Table) → old.answer ≡ Some table → raw ≡ table job
left old mid new slot ended job raw idle start ends table told =
    let s = stopped old mid new slot ended job ends.job (Ended ended) mid.faults idle start ends.stops in
    let answer : mid.answer ≡ Some table = ap (λ (z : Spawned). z.answer) start ∙ told in
    subst (λ o. IsAnswerToJob o ends.job raw) answer ends.leaves ∙ ap table (sym s.same)

-- the outcome is that of the table
pub outcome_told : (old mid new : Spawned) (slot ended : ℕ) (call : Call) (job : Job) (raw : Raw) (outcome : Outcome) → old.running ≡ [] → mid ≡ begun old slot job → Ends mid ended raw new → job ≡ job_of call → outcome ≡ outcome_of call raw
    → (table : Table) → old.answer ≡ Some table → table_outcomes table call ≡ Some outcome
outcome_told old mid new slot ended call job raw outcome idle start ends job_is is table told =
    ap Some (sym (is ∙ ap (outcome_of call) (left old mid new slot ended job raw idle start ends table told ∙ ap table job_is)))

-- ---- what is told of it

no_running : (slot : ℕ) → IsRunning [] slot → ⊥
no_running slot h = omega (arith, h.2)

-- the first slot is taken
pub first_slot : (running : List Running) (slot : ℕ) → running ≡ [] → IsLeastFree running slot → slot ≡ 0
first_slot running zero idle free = refl
first_slot running (suc slot) idle free = let none : IsRunning [] 0 = subst (λ l. IsRunning l 0) idle (free.least 0 (omega arith)) in absurd (no_running 0 none)

-- the fault is this one, as the answer of `finish` says it
abbrev pub IsEnd : FinishFault → FinishFault → Type 0
IsEnd fault other = ◌≡◌ {A = Result (ℕ × Raw) FinishFault} (Err fault) (Err other)

module _ (old mid new : Spawned) (slot : ℕ) (job : Job) (call : Call) (idle : old.running ≡ []) (free : IsLeastFree old.running slot) (start : mid ≡ begun old slot job) (job_is : job ≡ job_of call) where
  started_is : mid ≡ spawned_after_start old call
  started_is = let first = first_slot old.running slot idle free in start ∙ (λ i. begun old (first i) (job_is i))

  -- When it stops, nothing else happens.
  closed_is : (ended : ℕ) (ran : Job) (event : ToolEvent) (faults : ℕ) → StopsJob mid ended ran event faults new → new ≡ record (closed old call event) { faults = faults }
  closed_is ended ran event faults stops =
      let s = stopped old mid new slot ended job ran event faults idle start stops in
      let none : stops.before ++ stops.after ≡ [] = sym (ap (λ (z : Spawned). z.running) stops.is) ∙ s.idle in
      stops.is ∙ ap (λ l. record mid { running = l; log = noted mid.log event; faults = faults }) none ∙ ap (λ (z : Spawned). record z { running = []; log = noted z.log event; faults = faults }) started_is

  ended_first : (ended : ℕ) (ran : Job) (event : ToolEvent) (faults : ℕ) → StopsJob mid ended ran event faults new → ended ≡ 0
  ended_first ended ran event faults stops = let s = stopped old mid new slot ended job ran event faults idle start stops in sym s.here ∙ first_slot old.running slot idle free

  same_faults : mid.faults ≡ old.faults
  same_faults = ap (λ (z : Spawned). z.faults) start

  pub made_told : (ended : ℕ) (raw : Raw) → Ends mid ended raw new → new ≡ closed old call (Ended 0)
  made_told ended raw ends =
      let first = ended_first ended ends.job (Ended ended) mid.faults ends.stops in
      closed_is ended ends.job (Ended ended) mid.faults ends.stops ∙ (λ i. record (closed old call (Ended (first i))) { faults = same_faults i })

  lost_told : (ended : ℕ) → Loses mid ended new → HasLostEnd call old new
  lost_told ended l =
      let first = ended_first ended l.job (Lost ended) new.faults l.stops in
      record {
        counted = subst (λ n. IsCounted n new.faults) same_faults l.counted;
        is = closed_is ended l.job (Lost ended) new.faults l.stops ∙ ap (λ k. record (closed old call (Lost k)) { faults = new.faults }) first;
      }

  pub cut_told : (fault : FinishFault) → ((s : ℕ) → IsEnd fault (Failed s) → Loses mid s new) → (IsEnd fault Memory → new ≡ mid) → IsCut (job_fault_of_finish fault) call old new
  cut_told (Failed ended) lost same = inr (lost_told ended (lost ended refl))
  cut_told Memory lost same = inr (inl (same refl ∙ started_is))

-- What was given up is so at the fault that is answered.
pub cut_at : {T : Type 0} (r : Result T JobFault) (call : Call) (old new : Spawned) (fault : JobFault) → r ≡ Err fault → IsCut fault call old new → IfErr r (λ f. IsCut f call old new)
cut_at r call old new fault is cut = subst (λ x. IfErr x (λ f. IsCut f call old new)) (sym is) cut
