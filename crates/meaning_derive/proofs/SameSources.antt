-- The sources that are met from a node give its result.
use Rattle.std.proofs.Common.{◌≡◌, ℕ, zero, suc, ◌+◌, ◌≤◌, List, [], ◌∷◌, ◌++◌, sym, ap, ◌∙◌, subst, refl, length, arith, length-append}
use Rattle.std.specs.Prelude.{Option, Some, IsSome}
use Rattle.object_values.specs.declared.nodes.Node.{Node}
use Rattle.object_values.specs.declared.views.View.{View}
use Rattle.object_values.specs.declared.calls.Outcome.{Outcome}
use Rattle.meaning_texts.specs.Limits.{height_limit}
use Rattle.meaning_texts.specs.Lists.{IsIn}
use Rattle.meaning_texts.proofs.Lemmas.{value_of_some}
use Rattle.meaning_graph.specs.Graphs.{Graph}
use Rattle.meaning_tasks.specs.Tasks.{task_of}
use Rattle.meaning_tasks.specs.Needs.{Results, values_of, counted_needs}
use Rattle.meaning_tasks.specs.Settle.{settled, Settles}
use Rattle.meaning_tasks.specs.Laws.{AgreeAt}
use Rattle.meaning_tasks.proofs.Lemmas.{carry, full_needs_stay, own_by_source}
use Rattle.meaning_derive.specs.Derive.{Sources, text_of, Outcomes, derive, derived}
use Rattle.meaning_derive.specs.Chains.{IsNeed, Chain, IsMet}
use Rattle.meaning_derive.specs.Laws.{IsSettled}
use Rattle.meaning_derive.proofs.Steps.{grows_to}
use Rattle.meaning_derive.proofs.Heights.{as_settled, from_settled}
use Rattle.meaning_derive.proofs.Founded.{chain_on}
use Rattle.meaning_derive.proofs.Lower.{nothing_at_zero}

-- what a node settles to is the same over sources that agree on its text
settles_by_source : (g : Graph) (s other : Sources) (n : Node) (seen : Results) (outcome : Option Outcome) (view : View) → (n.steps ≡ [] → text_of s n.source ≡ text_of other n.source) → Settles g (text_of s) n seen outcome view → Settles g (text_of other) n seen outcome view
settles_by_source g s other n seen outcome view same p = record {
  names = p.names;
  reached = p.reached;
  is = p.is ∙ ap (λ own. settled seen own (counted_needs (task_of g n) (values_of seen) p.names)) (own_by_source g n (text_of s) (text_of other) (values_of seen) outcome same);
}

module _ (g : Graph) (s other : Sources) (outcomes : Outcomes) (n : Node) (same : (m : Node) → IsMet g (derived g s outcomes) n m → m.steps ≡ [] → text_of s m.source ≡ text_of other m.source) where
  abbrev at : ℕ → Results
  at h = derive g s outcomes h

  -- a need at a height is one at the limit
  need_of : (h : ℕ) → h ≤ height_limit → (m : Node) (v : View) (p : IsSettled g s outcomes h m v) (k : Node) → IsIn k p.needs → IsNeed g (derived g s outcomes) m k
  need_of h le m v p k i = record {
    needs = p.needs;
    listed = (full_needs_stay g (text_of s) m (at h) (at height_limit) p.needs (grows_to g s outcomes h height_limit le) p.listed p.known).needs;
    one = i;
  }

  -- what is met and derived at a height is derived there from the other sources
  met_same : (h : ℕ) (front : List Node) (m : Node) → length front + h ≤ height_limit → Chain g (derived g s outcomes) n (front ++ m ∷ []) → (v : View) → at h m ≡ Some v → derive g other outcomes h m ≡ Some v
  met_same zero front m few chain v e = absurd (nothing_at_zero g s outcomes m v e)
  met_same (suc h) front m few chain v e =
      let p : IsSettled g s outcomes h m v = as_settled g s outcomes h m v e in
      let agree : AgreeAt (at h) (derive g other outcomes h) p.needs = λ k i.
      let w = value_of_some (at h k) (p.known k i) in
      let need = need_of h (omega (arith, few)) m v p k i in
      w.1 ∙ sym (met_same h (front ++ m ∷ []) k (omega (arith, few, length-append front (m ∷ []))) (chain_on g (derived g s outcomes) front n m k chain need) w.0 w.1) in
      let c = carry g (text_of s) m (at h) (derive g other outcomes h) p.needs p.listed agree in
      let met : IsMet g (derived g s outcomes) n m = record { front = front; leads = chain; short = omega (arith, few) } in
      from_settled g other outcomes h m v (record {
        needs = p.needs;
        listed = c.needs;
        known = λ k i. subst IsSome (agree k i) (p.known k i);
        call = p.call;
        called = c.call p.call p.called;
        outcome = p.outcome;
        given = p.given;
        settles = settles_by_source g s other m (derive g other outcomes h) p.outcome v (same m met) (c.settles p.outcome v p.settles);
      })

  pub sources_enough : (view : View) → derived g s outcomes n ≡ Some view → derived g other outcomes n ≡ Some view
  sources_enough view e = met_same height_limit [] n (omega arith) (refl, tt) view e
