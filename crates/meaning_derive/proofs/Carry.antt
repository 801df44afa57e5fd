-- What follows from below: results of the needs, missing ones, and calls.
use Rattle.std.proofs.Common.{◌≡◌, ℕ, suc, ◌≤◌, List, inl, inr, subst, refl, arith}
use Rattle.std.specs.Prelude.{Option, Some, None, IsSome, option_map}
use Rattle.object_values.specs.declared.nodes.Node.{Node}
use Rattle.object_values.specs.declared.views.View.{View}
use Rattle.object_values.specs.declared.calls.Call.{Call}
use Rattle.object_values.specs.declared.calls.Outcome.{Outcome}
use Rattle.meaning_texts.specs.Limits.{height_limit}
use Rattle.meaning_texts.specs.Lists.{IsIn}
use Rattle.meaning_texts.proofs.Lemmas.{some_or_none, some_is_none, same_some}
use Rattle.meaning_graph.specs.Graphs.{Graph}
use Rattle.meaning_tasks.specs.Needs.{Results, Needs}
use Rattle.meaning_tasks.specs.Calls.{CallOf}
use Rattle.meaning_tasks.specs.Settle.{Settles}
use Rattle.meaning_tasks.specs.Laws.{AgreeAt}
use Rattle.meaning_tasks.proofs.Lemmas.{carry, one_call, full_agree}
use Rattle.meaning_derive.specs.Derive.{Sources, text_of, Outcomes, outcome_for, derive, derived}
use Rattle.meaning_derive.specs.Chains.{IsNeed}
use Rattle.meaning_derive.specs.Calls.{Runs}
use Rattle.meaning_derive.proofs.Steps.{grows_to}
use Rattle.meaning_derive.proofs.Heights.{as_settled, from_settled, need_below}

module _ (g : Graph) (s : Sources) (outcomes : Outcomes) where
  pub settles_to : (h : ℕ) (n : Node) (seen : Results) (nodes : List Node) → Needs g n seen nodes → AgreeAt seen (derive g s outcomes h) nodes → ((m : Node) → IsIn m nodes → IsSome (seen m))
      → (call : Option Call) (outcome : Option Outcome) → CallOf g n seen call → outcome_for outcomes call ≡ Some outcome → (view : View) → Settles g (text_of s) n seen outcome view → derive g s outcomes (suc h) n ≡ Some view
  settles_to h n seen nodes listed agree known call outcome called given view settles =
      let c = carry g (text_of s) n seen (derive g s outcomes h) nodes listed agree in
      from_settled g s outcomes h n view (record {
        needs = nodes;
        listed = c.needs;
        known = λ m i. subst IsSome (agree m i) (known m i);
        call = call;
        called = c.call call called;
        outcome = outcome;
        given = given;
        settles = c.settles outcome view settles;
      })

  pub none_by_need : (h : ℕ) → h ≤ height_limit → (n m : Node) → IsNeed g (derived g s outcomes) n m → derive g s outcomes h m ≡ None → derive g s outcomes (suc h) n ≡ None
  none_by_need h le n m need none = elim (some_or_none (derive g s outcomes (suc h) n)) [
    | inl v ↦ let w = need_below g s outcomes h le n m v.0 v.1 need in some_is_none (derive g s outcomes h m) w.0 w.1 none
    | inr q ↦ q
  ]

  -- the call of what has a result has an outcome
  pub called : (h : ℕ) → h ≤ height_limit → (n : Node) (view : View) → derive g s outcomes (suc h) n ≡ Some view → (call : Call) → Runs g (derived g s outcomes) n call → (o : Outcome) × (outcomes call ≡ Some o)
  called h le n view e call runs =
      let p = as_settled g s outcomes h n view e in
      let agree : AgreeAt (derive g s outcomes h) (derived g s outcomes) p.needs = full_agree (derive g s outcomes h) (derived g s outcomes) p.needs (grows_to g s outcomes h height_limit le) p.known in
      let c = carry g (text_of s) n (derive g s outcomes h) (derived g s outcomes) p.needs p.listed agree in
      let same : p.call ≡ Some call = one_call g n (derived g s outcomes) p.call (Some call) (c.call p.call p.called) runs.called in
      by_outcome (outcomes call) refl (subst (λ z. outcome_for outcomes z ≡ Some p.outcome) same p.given)
    where
      by_outcome : {q : Option Outcome} → (o : Option Outcome) → outcomes call ≡ o → option_map (λ o. Some o) o ≡ Some q → (o : Outcome) × (outcomes call ≡ Some o)
      by_outcome None e k = cc
      by_outcome (Some o) e k = (o, e)

  pub none_by_call : (n : Node) (call : Call) → Runs g (derived g s outcomes) n call → outcomes call ≡ None → derived g s outcomes n ≡ None
  none_by_call n call runs none = elim (some_or_none (derived g s outcomes n)) [
    | inl v ↦ let o = called 63 (omega arith) n v.0 v.1 call runs in some_is_none (outcomes call) o.0 o.1 none
    | inr q ↦ q
  ]

pub one_run : (g : Graph) (seen : Results) (n : Node) (call other : Call) → Runs g seen n call → Runs g seen n other → call ≡ other
one_run g seen n call other p q = same_some (one_call g n seen (Some call) (Some other) p.called q.called)
