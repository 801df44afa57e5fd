-- Derivation goes by the relation of needs, and heights go by the needs.
use Rattle.std.proofs.Common.{◌≡◌, ℕ, zero, suc, ◌≤◌, true, false, List, ◌⊎◌, inl, inr, sym, ap, ◌∙◌, subst, refl, is_some, arith, cond}
use Rattle.std.specs.Prelude.{Option, Some, None, option_map}
use Rattle.object_values.specs.declared.nodes.Node.{Node}
use Rattle.object_values.specs.declared.views.View.{View}
use Rattle.object_values.specs.declared.calls.Call.{Call}
use Rattle.object_values.specs.declared.calls.Outcome.{Outcome}
use Rattle.meaning_texts.specs.Limits.{height_limit}
use Rattle.meaning_graph.specs.Graphs.{Graph}
use Rattle.meaning_texts.specs.Lists.{IsIn}
use Rattle.meaning_texts.proofs.Lemmas.{in_all_pass, all_pass_in, one_fails, value_of_some, some_or_none, some_is_none, same_some}
use Rattle.meaning_tasks.specs.Tasks.{task_of}
use Rattle.meaning_tasks.specs.Needs.{Results, values_of, needs_of, Needs}
use Rattle.meaning_tasks.specs.Calls.{call_of, CallOf}
use Rattle.meaning_tasks.specs.Settle.{settle, Settles}
use Rattle.meaning_tasks.proofs.Lemmas.{one_list, local, one_list_of_needs, need_stays}
use Rattle.meaning_derive.specs.Derive.{Sources, text_of, Outcomes, all_known, outcome_for, names_for, derive, derived, HasHeight}
use Rattle.meaning_derive.specs.Chains.{IsNeed}
use Rattle.meaning_derive.specs.Laws.{IsSettled, IsOneAbove}
use Rattle.meaning_derive.proofs.Steps.{SameResults, same_values, step_so, so_step, known_stay, settle_moves, above_moves, is_above, derive_grows, grows_to}
use Rattle.meaning_derive.proofs.Present.{names_reached, needs_at, needs_listed}

pub none_is : {A : Type 0} (o : Option A) → is_some o ≡ false → o ≡ None
none_is None h = refl
none_is (Some x) h = cc

module _ (g : Graph) (s : Sources) (outcomes : Outcomes) where
  abbrev pub at : ℕ → Results
  at h = derive g s outcomes h

  abbrev pub needs : ℕ → Node → List Node
  needs h n = needs_at g s outcomes h n

  abbrev pub call_at : ℕ → Node → Option Call
  call_at h n = call_of g (task_of g n) (values_of (at h)) (names_for g s n (at h))

  pub known_below : (h : ℕ) (n : Node) (v : View) → at (suc h) n ≡ Some v → all_known (at h) (needs h n) ≡ true
  unfolding derive
  known_below h n v e = (step_so g s n outcomes (at h) (names_for g s n (at h)) v e).known

  -- ---- the relation

  pub as_settled : (h : ℕ) (n : Node) (v : View) → at (suc h) n ≡ Some v → IsSettled g s outcomes h n v
  unfolding derive
  as_settled h n v e =
      let p = step_so g s n outcomes (at h) (names_for g s n (at h)) v e in
      record {
        needs = needs h n;
        listed = needs_listed g s outcomes h n;
        known = in_all_pass (λ m. is_some (at h m)) (needs h n) p.known;
        call = call_at h n;
        called = record { names = names_for g s n (at h); reached = names_reached g s outcomes h n; is = refl };
        outcome = p.outcome;
        given = p.given;
        settles = record { names = names_for g s n (at h); reached = names_reached g s outcomes h n; is = p.is };
      }

  pub from_settled : (h : ℕ) (n : Node) (v : View) → IsSettled g s outcomes h n v → at (suc h) n ≡ Some v
  unfolding derive
  from_settled h n v p =
      let names = names_for g s n (at h) in
      let same : p.needs ≡ needs h n = one_list_of_needs g n (at h) p.needs (needs h n) p.listed (needs_listed g s outcomes h n) in
      let called : p.called.names ≡ names = one_list _ _ _ _ p.called.reached (names_reached g s outcomes h n) in
      let settled : p.settles.names ≡ names = one_list _ _ _ _ p.settles.reached (names_reached g s outcomes h n) in
      so_step g s n outcomes (at h) names v (record {
        known = all_pass_in (λ m. is_some (at h m)) (needs h n) (λ m i. p.known m (subst (λ l. IsIn m l) (sym same) i));
        outcome = p.outcome;
        given = ap (outcome_for outcomes) (ap (call_of g (task_of g n) (values_of (at h))) (sym called) ∙ sym p.called.is) ∙ p.given;
        is = p.settles.is ∙ ap (settle g (text_of s) n (at h) p.outcome) settled;
      })

  -- results that agree on the needs settle the node to the same view
  pub settles_again : (h : ℕ) (n : Node) (v : View) → at (suc h) n ≡ Some v → (seen : Results) (nodes : List Node) → Needs g n seen nodes → ((m : Node) → IsIn m nodes → seen m ≡ at h m)
      → (call : Option Call) (outcome : Option Outcome) → CallOf g n seen call → outcome_for outcomes call ≡ Some outcome → Settles g (text_of s) n seen outcome v
  unfolding derive
  settles_again h n v e seen nodes listed agree call outcome called given =
      let p = step_so g s n outcomes (at h) (names_for g s n (at h)) v e in
      let same : SameResults seen (at h) (needs_of (task_of g n) (values_of seen) listed.names) = λ m i. agree m (subst (λ l. IsIn m l) (sym listed.listed) i) in
      let l = local g n seen (at h) listed.names listed.reached (same_values seen (at h) _ same) in
      let names : listed.names ≡ names_for g s n (at h) = one_list _ _ _ _ l.reached (names_reached g s outcomes h n) in
      let called_names : called.names ≡ listed.names = one_list _ _ _ _ called.reached listed.reached in
      let same_call : call ≡ call_at h n = called.is ∙ ap (call_of g (task_of g n) (values_of seen)) called_names ∙ l.call ∙ ap (call_of g (task_of g n) (values_of (at h))) names in
      let same_outcome : outcome ≡ p.outcome = same_some (sym given ∙ ap (outcome_for outcomes) same_call ∙ p.given) in
      record {
        names = listed.names;
        reached = listed.reached;
        is = p.is ∙ (λ i. settle g (text_of s) n (at h) (sym same_outcome i) (sym names i)) ∙ sym (settle_moves g s n seen (at h) listed.names same outcome);
      }

  -- ---- needs of what is derived

  -- the needs at a height are those at the limit, where they all have results
  pub needs_at_limit : (h : ℕ) → h ≤ height_limit → (n : Node) → all_known (at h) (needs h n) ≡ true → Needs g n (at height_limit) (needs h n)
  needs_at_limit h le n k =
      let same : SameResults (at h) (at height_limit) (needs h n) = known_stay g s n (at h) (at height_limit) (grows_to g s outcomes h height_limit le) (needs h n) k in
      let l = local g n (at h) (at height_limit) (names_for g s n (at h)) (names_reached g s outcomes h n) (same_values (at h) (at height_limit) (needs h n) same) in
      record { names = names_for g s n (at h); reached = l.reached; listed = l.needs }

  -- a need at a height is one at the limit
  pub need_at_limit : (h : ℕ) → h ≤ height_limit → (n m : Node) → IsIn m (needs h n) → IsNeed g (at height_limit) n m
  need_at_limit h le n m i = record {
    needs = needs height_limit n;
    listed = needs_listed g s outcomes height_limit n;
    one = need_stays g n (at h) (at height_limit) (needs h n) (needs height_limit n) (grows_to g s outcomes h height_limit le) (needs_listed g s outcomes h n) (needs_listed g s outcomes height_limit n) m i;
  }

  -- a need of what is derived at a height is derived below it
  pub need_below : (h : ℕ) → h ≤ height_limit → (n m : Node) (v : View) → at (suc h) n ≡ Some v → IsNeed g (at height_limit) n m → (w : View) × (at h m ≡ Some w)
  need_below h le n m v e need =
      let k = known_below h n v e in
      let same : need.needs ≡ needs h n = one_list_of_needs g n (at height_limit) need.needs (needs h n) need.listed (needs_at_limit h le n k) in
      value_of_some (at h m) (in_all_pass (λ x. is_some (at h x)) (needs h n) k m (subst (λ l. IsIn m l) same need.one))

  -- ---- where nothing is derived

  -- a need without a result
  pub record IsMissing (h : ℕ) (n : Node) : Type 0 where
    pub node : Node
    pub one : IsIn node (needs h n)
    pub none : at h node ≡ None

  -- a call without an outcome, all needs having results
  pub record IsStopped (h : ℕ) (n : Node) : Type 0 where
    pub known : all_known (at h) (needs h n) ≡ true
    pub call : Call
    pub is : call_at h n ≡ Some call
    pub outside : outcomes call ≡ None

  stopped_by : (h : ℕ) (n : Node) → all_known (at h) (needs h n) ≡ true → (c : Option Call) → call_at h n ≡ c → option_map (λ o. settle g (text_of s) n (at h) o (names_for g s n (at h))) (outcome_for outcomes c) ≡ None → IsStopped h n
  stopped_by h n k None e p = cc
  stopped_by h n k (Some c) e p = (elim (outcomes c) as (λ o. outcomes c ≡ o → option_map (λ o. settle g (text_of s) n (at h) o (names_for g s n (at h))) (option_map (λ o. Some o) o) ≡ None → IsStopped h n) [
    | None ↦ λ q r. record { known = k; call = c; is = e; outside = q }
    | Some o ↦ λ q r. cc
  ]) refl p

  pub missing_or_stopped : (h : ℕ) (n : Node) → at (suc h) n ≡ None → IsMissing h n ⊎ IsStopped h n
  unfolding derive
  missing_or_stopped h n e = (elim (all_known (at h) (needs h n)) as (λ b. all_known (at h) (needs h n) ≡ b → cond b (option_map (λ o. settle g (text_of s) n (at h) o (names_for g s n (at h))) (outcome_for outcomes (call_at h n))) None ≡ None → IsMissing h n ⊎ IsStopped h n) [
    | true ↦ λ k p. inr (stopped_by h n k (call_at h n) refl p)
    | false ↦ λ k p. let r = one_fails (λ m. is_some (at h m)) (needs h n) k in inl (record { node = r.0; one = r.1; none = none_is (at h r.0) r.2 })
  ]) refl e

  -- ---- heights

  -- the least height of what is derived at some height
  pub lowest : (h : ℕ) (n : Node) (v : View) → at h n ≡ Some v → (k : ℕ) × HasHeight g s outcomes n k × (k ≤ h)
  unfolding derive
  lowest zero n v e = cc
  lowest (suc h) n v e = elim (some_or_none (at h n)) [
    | inl w ↦ let r = lowest h n w.0 w.1 in (r.0, r.1, omega (arith, r.2))
    | inr none ↦ (suc h, record { there = ap is_some e; least = λ k l. lower k (omega (arith, l)) none (some_or_none (at k n)) }, omega arith)
  ]
    where
      lower : (k : ℕ) → k ≤ h → at h n ≡ None → ((w : View) × (at k n ≡ Some w)) ⊎ (at k n ≡ None) → at k n ≡ None
      lower k le none (inl w) = some_is_none (at h n) w.0 (grows_to g s outcomes k h le n w.0 w.1) none
      lower k le none (inr q) = q

  pub one_above : (n : Node) (h : ℕ) → HasHeight g s outcomes n (suc h) → suc h ≤ height_limit → IsOneAbove g s outcomes n h
  one_above n h p le = record { each = each; one = one h p le }
    where
      each : (m : Node) → IsNeed g (derived g s outcomes) n m → (k : ℕ) × HasHeight g s outcomes m k × (k ≤ h)
      each m need =
          let v = value_of_some (at (suc h) n) p.there in
          let w = need_below h (omega (arith, le)) n m v.0 v.1 need in
          lowest h m w.0 w.1

      one : (h : ℕ) → HasHeight g s outcomes n (suc h) → suc h ≤ height_limit → (h ≡ 0) ⊎ ((m : Node) × IsNeed g (derived g s outcomes) n m × HasHeight g s outcomes m h)
      one zero p le = inl refl
      one (suc h) p le = inr (by_cause (missing_or_stopped h n (p.least (suc h) (omega arith))))
        where
          by_cause : IsMissing h n ⊎ IsStopped h n → (m : Node) × IsNeed g (derived g s outcomes) n m × HasHeight g s outcomes m (suc h)
          by_cause (inl q) =
              let v = value_of_some (at (suc (suc h)) n) p.there in
              let w = need_below (suc h) (omega (arith, le)) n q.node v.0 v.1 (need_at_limit h (omega (arith, le)) n q.node q.one) in (
                q.node,
                need_at_limit h (omega (arith, le)) n q.node q.one,
                record { there = ap is_some w.1; least = λ k l. below k (omega (arith, l)) q.none (some_or_none (at k q.node)) },
              )
            where
              below : (k : ℕ) → k ≤ h → at h q.node ≡ None → ((w : View) × (at k q.node ≡ Some w)) ⊎ (at k q.node ≡ None) → at k q.node ≡ None
              below k le none (inl w) = some_is_none (at h q.node) w.0 (grows_to g s outcomes k h le q.node w.0 w.1) none
              below k le none (inr r) = r
          by_cause (inr q) = some_is_none (at (suc (suc h)) n) (value_of_some (at (suc (suc h)) n) p.there).0 (value_of_some (at (suc (suc h)) n) p.there).1 stays_none
            where
              stays_none : at (suc (suc h)) n ≡ None
              stays_none = is_above g s outcomes (suc h) n
                  ∙ sym (above_moves g s n outcomes (at h) (at (suc h)) (known_stay g s n (at h) (at (suc h)) (derive_grows g s outcomes h) (needs h n) q.known))
                  ∙ sym (is_above g s outcomes h n) ∙ p.least (suc h) (omega arith)
