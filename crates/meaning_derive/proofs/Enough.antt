-- The calls that are met from a node give its result.
use Rattle.std.proofs.Common.{◌≡◌, ℕ, zero, suc, ◌+◌, ◌≤◌, true, List, [], ◌∷◌, ◌++◌, sym, ap, ◌∙◌, refl, length, arith, length-append, is_some}
use Rattle.std.specs.Prelude.{Option, Some, None, option_map}
use Rattle.object_values.specs.declared.nodes.Node.{Node}
use Rattle.object_values.specs.declared.views.View.{View}
use Rattle.object_values.specs.declared.calls.Call.{Call}
use Rattle.meaning_texts.specs.Limits.{height_limit}
use Rattle.meaning_graph.specs.Graphs.{Graph}
use Rattle.meaning_texts.proofs.Lemmas.{in_all_pass, value_of_some}
use Rattle.meaning_tasks.specs.Needs.{Results}
use Rattle.meaning_derive.specs.Derive.{Sources, Outcomes, all_known, outcome_for, names_for, derive, derived}
use Rattle.meaning_derive.specs.Chains.{Chain}
use Rattle.meaning_derive.specs.Calls.{Runs, IsCallFrom}
use Rattle.meaning_derive.proofs.Steps.{SameResults, step_so, so_step, above_moves, grows_to}
use Rattle.meaning_derive.proofs.Present.{names_reached, needs_listed}
use Rattle.meaning_derive.proofs.Heights.{needs, call_at, need_at_limit}
use Rattle.meaning_derive.proofs.Founded.{chain_on, runs_stay}

module _ (g : Graph) (s : Sources) (outcomes kept : Outcomes) (n : Node) (has : (call : Call) → IsCallFrom g (derived g s outcomes) n call → kept call ≡ outcomes call) where
  abbrev full : ℕ → Results
  full h = derive g s outcomes h

  abbrev part : ℕ → Results
  part h = derive g s kept h

  -- the outcome of a met node's call is kept
  own_outcome : (h : ℕ) (front : List Node) (m : Node) → Chain g (full height_limit) n (front ++ m ∷ []) → length front ≤ height_limit → h ≤ height_limit → all_known (full h) (needs g s outcomes h m) ≡ true → (c : Option Call) → call_at g s outcomes h m ≡ c → outcome_for outcomes c ≡ outcome_for kept c
  own_outcome h front m chain few le known None e = refl
  own_outcome h front m chain few le known (Some c) e =
      let below : Runs g (full h) m c = record {
        needs = needs g s outcomes h m;
        listed = needs_listed g s outcomes h m;
        known = in_all_pass (λ x. is_some (full h x)) (needs g s outcomes h m) known;
        called = record { names = names_for g s m (full h); reached = names_reached g s outcomes h m; is = sym e };
      } in
      let runs = runs_stay g (full h) (full height_limit) (grows_to g s outcomes h height_limit le) m c below in
      ap (option_map (λ o. Some o)) (sym (has c (record { node = m; met = record { front = front; leads = chain; short = few }; runs = runs })))

  -- what is met and derived at a height is derived there by the kept calls
  met_same : (h : ℕ) (front : List Node) (m : Node) → length front + h ≤ height_limit → Chain g (full height_limit) n (front ++ m ∷ []) → (v : View) → full h m ≡ Some v → part h m ≡ Some v
  unfolding derive
  met_same zero front m few chain v e = cc
  met_same (suc h) front m few chain v e =
      let p = step_so g s m outcomes (full h) (names_for g s m (full h)) v e in
      let same : SameResults (full h) (part h) (needs g s outcomes h m) = λ k i.
      let w = value_of_some (full h k) (in_all_pass (λ x. is_some (full h x)) (needs g s outcomes h m) p.known k i) in
      let need = need_at_limit g s outcomes h (omega (arith, few)) m k i in
      w.1 ∙ sym (met_same h (front ++ m ∷ []) k (omega (arith, few, length-append front (m ∷ []))) (chain_on g (full height_limit) front n m k chain need) w.0 w.1) in
      let outcome = own_outcome h front m chain (omega (arith, few)) (omega (arith, few)) p.known (call_at g s outcomes h m) refl in
      sym (above_moves g s m kept (full h) (part h) same)
      ∙ so_step g s m kept (full h) (names_for g s m (full h)) v (record { known = p.known; outcome = p.outcome; given = sym outcome ∙ p.given; is = p.is })

  -- The kept calls give the node's result.
  pub enough : (v : View) → derived g s outcomes n ≡ Some v → derived g s kept n ≡ Some v
  enough v e = met_same height_limit [] n (omega arith) (refl, tt) v e
