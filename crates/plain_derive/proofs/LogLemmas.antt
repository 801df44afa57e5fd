-- What is told of the tools over the calls of a derivation.
use Rattle.std.proofs.Common.{◌≡◌, ◌≤◌, List, [], ◌∷◌, ◌++◌, inl, inr, sym, ap, ◌∙◌, subst, refl, length, arith}
use Rattle.std.specs.Prelude.{Result, Ok, Err, IfOk, IfErr}
use Rattle.object_values.specs.declared.nodes.Node.{Node}
use Rattle.object_values.specs.declared.calls.Call.{Call}
use Rattle.odin_outside.specs.declared.events.ToolEvent.TheVariants.{Ended}
use Rattle.odin_outside.specs.Causes.{IsCounted}
use Rattle.odin_outside.specs.Spawned.{Spawned}
use Rattle.meaning_calls.specs.Jobs.{job_of}
use Rattle.meaning_graph.specs.Graphs.{Graph}
use Rattle.meaning_derive.specs.Derive.{Sources, Outcomes}
use Rattle.derive_walk.specs.declared.found.Found.{Found}
use Rattle.job_runner.specs.declared.fault.JobFault.{JobFault}
use Rattle.job_runner.specs.declared.fault.JobFault.TheVariants.{Spawn, Memory}
use Rattle.plain_derive.specs.Laws.{CountedFor}
use Rattle.plain_derive.specs.Logs.{closed, IsCut, after_calls, HasMade, IsPartialRun, HasDerived, HasGivenUp, ComeToRest}

-- ---- after calls

pub same_answer : (before : Spawned) (calls : List Call) → (after_calls before calls).answer ≡ before.answer
same_answer before [] = refl
same_answer before (call ∷ calls) = same_answer (closed before call (Ended 0)) calls

pub none_run : (before : Spawned) (calls : List Call) → before.running ≡ [] → (after_calls before calls).running ≡ []
none_run before [] idle = idle
none_run before (call ∷ calls) idle = none_run (closed before call (Ended 0)) calls refl

pub same_faults : (before : Spawned) (calls : List Call) → (after_calls before calls).faults ≡ before.faults
same_faults before [] = refl
same_faults before (call ∷ calls) = same_faults (closed before call (Ended 0)) calls

-- ---- faults

pub uncounted : (g : Graph) (s : Sources) (outcomes : Outcomes) (n : Node) (calls : List Call) (before now : Spawned) → HasMade g s outcomes n calls before now → now.faults ≡ before.faults
uncounted g s outcomes n calls before now made = ap (λ (z : Spawned). z.faults) made.now_is ∙ same_faults before calls

pub cut_counted : (call : Call) (fault : JobFault) (before now : Spawned) → IsCut fault call before now → CountedFor fault before now
cut_counted call Spawn before now (inl fails) = fails.counted
cut_counted call Spawn before now (inr lost) = lost.counted
cut_counted call Memory before now (inl e) = ap (λ (z : Spawned). z.faults) e
cut_counted call Memory before now (inr (inl e)) = ap (λ (z : Spawned). z.faults) e
cut_counted call Memory before now (inr (inr e)) = ap (λ (z : Spawned). z.faults) e

pub cut_answer : (call : Call) (fault : JobFault) (before now : Spawned) → IsCut fault call before now → now.answer ≡ before.answer
cut_answer call Spawn before now (inl fails) = ap (λ (z : Spawned). z.answer) fails.is
cut_answer call Spawn before now (inr lost) = ap (λ (z : Spawned). z.answer) lost.is
cut_answer call Memory before now (inl e) = ap (λ (z : Spawned). z.answer) e
cut_answer call Memory before now (inr (inl e)) = ap (λ (z : Spawned). z.answer) e
cut_answer call Memory before now (inr (inr e)) = ap (λ (z : Spawned). z.answer) e

-- over the calls that were made before
moved : (fault : JobFault) (before mid now : Spawned) → mid.faults ≡ before.faults → CountedFor fault mid now → CountedFor fault before now
moved Memory before mid now same counted = counted ∙ same
moved Spawn before mid now same counted = subst (λ k. IsCounted k now.faults) same counted

pub given_up_counted : (g : Graph) (s : Sources) (outcomes : Outcomes) (n : Node) (fault : JobFault) (before now : Spawned) → IsPartialRun g s outcomes n fault before now → CountedFor fault before now
given_up_counted g s outcomes n fault before now begun = moved fault before (after_calls before begun.calls) now (same_faults before begun.calls) (elim begun.cut [
  | inl wanted ↦ subst (λ f. CountedFor f (after_calls before begun.calls) now) (sym wanted.memory) (ap (λ (z : Spawned). z.faults) wanted.same)
  | inr next ↦ cut_counted next.call fault (after_calls before begun.calls) now next.cut
])

-- ---- at rest

pub few_run : (now : Spawned) → now.running ≡ [] → length now.running ≤ 1
few_run now idle = let e : length now.running ≡ 0 = ap length idle in omega (arith, e)

-- none runs, and the tools answer as before
calm : (result : Result Found JobFault) (before now : Spawned) → now.answer ≡ before.answer → now.running ≡ [] → ComeToRest before now result
calm result before now answer idle = record { answer = answer; one = few_run now idle; idle = λ differs. idle }

found_rests : (g : Graph) (s : Sources) (n : Node) (before now : Spawned) (found : Found) → before.running ≡ [] → HasDerived g s n before now found → ComeToRest before now (Ok found)
found_rests g s n before now found idle so =
    let is = so.made.now_is in
    calm (Ok found) before now (ap (λ (z : Spawned). z.answer) is ∙ same_answer before so.calls) (ap (λ (z : Spawned). z.running) is ∙ none_run before so.calls idle)

pub cut_rests : (fault : JobFault) (call : Call) (mid now : Spawned) → mid.running ≡ [] → IsCut fault call mid now → ComeToRest mid now (Err fault)
cut_rests Memory call mid now idle (inl e) = calm (Err Memory) mid now (ap (λ (z : Spawned). z.answer) e) (ap (λ (z : Spawned). z.running) e ∙ idle)
cut_rests Memory call mid now idle (inr (inl e)) =
    let one : length now.running ≡ 1 = ap (λ (z : Spawned). length z.running) e ∙ ap (λ l. length (l ++ (record { slot = 0; job = job_of call }) ∷ [])) idle in
    record { answer = ap (λ (z : Spawned). z.answer) e; one = omega (arith, one); idle = λ differs. absurd (differs refl) }
cut_rests Memory call mid now idle (inr (inr e)) = calm (Err Memory) mid now (ap (λ (z : Spawned). z.answer) e) (ap (λ (z : Spawned). z.running) e)
cut_rests Spawn call mid now idle (inl fails) = calm (Err Spawn) mid now (ap (λ (z : Spawned). z.answer) fails.is) (ap (λ (z : Spawned). z.running) fails.is ∙ idle)
cut_rests Spawn call mid now idle (inr lost) = calm (Err Spawn) mid now (ap (λ (z : Spawned). z.answer) lost.is) (ap (λ (z : Spawned). z.running) lost.is)

rest_moves : (result : Result Found JobFault) (before mid now : Spawned) → mid.answer ≡ before.answer → ComeToRest mid now result → ComeToRest before now result
rest_moves result before mid now same rest = record { answer = rest.answer ∙ same; one = rest.one; idle = rest.idle }

given_up_rests : (g : Graph) (s : Sources) (n : Node) (before now : Spawned) (fault : JobFault) → before.running ≡ [] → HasGivenUp g s n before now fault → ComeToRest before now (Err fault)
given_up_rests g s n before now fault idle so =
    let mid : Spawned = after_calls before so.begun.calls in
    let none : mid.running ≡ [] = none_run before so.begun.calls idle in
    rest_moves (Err fault) before mid now (same_answer before so.begun.calls) (elim so.begun.cut [
      | inl wanted ↦ calm (Err fault) mid now (ap (λ (z : Spawned). z.answer) wanted.same) (ap (λ (z : Spawned). z.running) wanted.same ∙ none)
      | inr next ↦ cut_rests fault next.call mid now none next.cut
    ])

pub rests : (g : Graph) (s : Sources) (n : Node) (before now : Spawned) (result : Result Found JobFault) → before.running ≡ [] → IfOk result (HasDerived g s n before now) → IfErr result (HasGivenUp g s n before now) → ComeToRest before now result
rests g s n before now (Ok found) idle derived given_up = found_rests g s n before now found idle derived
rests g s n before now (Err fault) idle derived given_up = given_up_rests g s n before now fault idle given_up
