-- The calls of what has a result have outcomes, and more outcomes bring none.
use Rattle.std.proofs.Common.{◌≡◌, ℕ, zero, suc, ◌≤◌, List, [], ◌∷◌, ◌++◌, ap, subst, is_some, arith}
use Rattle.std.specs.Prelude.{Some, IsSome}
use Rattle.object_values.specs.declared.nodes.Node.{Node}
use Rattle.object_values.specs.declared.views.View.{View}
use Rattle.object_values.specs.declared.calls.Call.{Call}
use Rattle.meaning_texts.specs.Limits.{height_limit}
use Rattle.meaning_texts.specs.Lists.{IsIn}
use Rattle.meaning_texts.proofs.Lemmas.{value_of_some, some_is_none}
use Rattle.meaning_graph.specs.Graphs.{Graph}
use Rattle.meaning_tasks.specs.Needs.{Results, Needs}
use Rattle.meaning_tasks.specs.Calls.{CallOf}
use Rattle.meaning_tasks.specs.Laws.{AgreeAt}
use Rattle.meaning_tasks.proofs.Lemmas.{one_list_of_needs, carry, one_call, full_agree}
use Rattle.meaning_derive.specs.Derive.{Sources, text_of, Outcomes, derive, derived, IsFounded}
use Rattle.meaning_derive.specs.Chains.{IsNeed, LeadsOn, Chain}
use Rattle.meaning_derive.specs.Calls.{Runs, IsCallFrom, IsFrontier}
use Rattle.meaning_derive.specs.Laws.{HasMore, IsSettled}
use Rattle.meaning_derive.proofs.Steps.{derive_more, grows_to}
use Rattle.meaning_derive.proofs.Heights.{as_settled, need_below}
use Rattle.meaning_derive.proofs.Lower.{nothing_at_zero, chain_end}
use Rattle.meaning_derive.proofs.Carry.{called}

module _ (g : Graph) (s : Sources) (outcomes : Outcomes) where
  pub known : (n : Node) (call : Call) → IsFounded g s outcomes n → IsCallFrom g (derived g s outcomes) n call → IsSome (outcomes call)
  known n call founded c =
      let v = value_of_some (derived g s outcomes n) founded in
      let e = chain_end g s outcomes n v.0 v.1 c.met.front c.node c.met.leads in
      by_height e.height (omega (arith, e.low)) e.view e.is
    where
      by_height : (k : ℕ) → k ≤ height_limit → (w : View) → derive g s outcomes k c.node ≡ Some w → IsSome (outcomes call)
      by_height zero le w e = absurd (nothing_at_zero g s outcomes c.node w e)
      by_height (suc k) le w e = ap is_some (called g s outcomes k (omega (arith, le)) c.node w e call c.runs).1

  pub no_frontier : (n : Node) (call : Call) → IsFounded g s outcomes n → IsFrontier g s outcomes n call → ⊥
  no_frontier n call founded f = let o = value_of_some (outcomes call) (known n call founded f.from) in some_is_none (outcomes call) o.0 o.1 f.outside

module _ (g : Graph) (s : Sources) (outcomes more : Outcomes) (has : HasMore outcomes more) where
  abbrev few : ℕ → Results
  few h = derive g s outcomes h

  abbrev all : Results
  all = derived g s outcomes

  abbrev many : Results
  many = derived g s more

  module _ (h : ℕ) (le : h ≤ height_limit) (n : Node) (v : View) (e : few (suc h) n ≡ Some v) where
    below : IsSettled g s outcomes h n v
    below = as_settled g s outcomes h n v e

    to_all : AgreeAt (few h) all below.needs
    to_all = full_agree (few h) all below.needs (grows_to g s outcomes h height_limit le) below.known

    to_many : AgreeAt (few h) many below.needs
    to_many = full_agree (few h) many below.needs (λ m w p. derive_more g s outcomes more has height_limit m w (grows_to g s outcomes h height_limit le m w p)) below.known

    in_all : Needs g n all below.needs
    in_all = (carry g (text_of s) n (few h) all below.needs below.listed to_all).needs

    same_needs : (needs : List Node) → Needs g n many needs → needs ≡ below.needs
    same_needs needs listed = one_list_of_needs g n many needs below.needs listed (carry g (text_of s) n (few h) many below.needs below.listed to_many).needs

    need_was : (m : Node) → IsNeed g many n m → IsNeed g all n m
    need_was m need = record { needs = below.needs; listed = in_all; one = subst (λ l. IsIn m l) (same_needs need.needs need.listed) need.one }

    run_was : (call : Call) → Runs g many n call → Runs g all n call
    run_was call runs =
        let same : below.call ≡ Some call = one_call g n many below.call (Some call) ((carry g (text_of s) n (few h) many below.needs below.listed to_many).call below.call below.called) runs.called in
        record {
          needs = below.needs;
          listed = in_all;
          known = λ m i. subst IsSome (to_all m i) (below.known m i);
          called = subst (λ c. CallOf g n all c) same ((carry g (text_of s) n (few h) all below.needs below.listed to_all).call below.call below.called);
        }

  leads_were : (h : ℕ) → h ≤ height_limit → (n : Node) (v : View) → few h n ≡ Some v → (rest : List Node) → LeadsOn g many n rest → LeadsOn g all n rest
  leads_were zero le n v e rest l = absurd (nothing_at_zero g s outcomes n v e)
  leads_were (suc h) le n v e [] l = tt
  leads_were (suc h) le n v e (m ∷ rest) l =
      let need = need_was h (omega (arith, le)) n v e m l.0 in
      let w = need_below g s outcomes h (omega (arith, le)) n m v e need in
      (need, leads_were h (omega (arith, le)) m w.0 w.1 rest l.1)

  chain_was : (n : Node) (v : View) → all n ≡ Some v → (chain : List Node) → Chain g many n chain → Chain g all n chain
  chain_was n v e [] c = c
  chain_was n v e (m ∷ rest) c = (c.0, leads_were height_limit (omega arith) m v (subst (λ z. all z ≡ Some v) c.0 e) rest c.1)

  pub none_come : (n : Node) (call : Call) → IsFounded g s outcomes n → IsCallFrom g many n call → IsCallFrom g all n call
  none_come n call founded c =
      let v = value_of_some (all n) founded in
      let leads = chain_was n v.0 v.1 (c.met.front ++ c.node ∷ []) c.met.leads in
      let e = chain_end g s outcomes n v.0 v.1 c.met.front c.node leads in
      record { node = c.node; met = record { front = c.met.front; leads = leads; short = c.met.short }; runs = by_height e.height (omega (arith, e.low)) e.view e.is }
    where
      by_height : (k : ℕ) → k ≤ height_limit → (w : View) → few k c.node ≡ Some w → Runs g all c.node call
      by_height zero le w e = absurd (nothing_at_zero g s outcomes c.node w e)
      by_height (suc k) le w e = run_was k (omega (arith, le)) c.node w e call c.runs
