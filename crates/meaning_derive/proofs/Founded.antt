-- A node is founded, or has a chain, or its derivation stops at a call; and never a result and a chain.
use Rattle.std.proofs.Common.{◌≡◌, ℕ, zero, suc, ◌+◌, ◌≤◌, ◌<◌, List, [], ◌∷◌, ◌++◌, ◌⊎◌, inl, inr, sym, ap, ◌∙◌, subst, refl, length, arith, append_assoc, append-nil, length-append, is_some}
use Rattle.std.specs.Prelude.{Some, None, IsSome}
use Rattle.std.specs.List.{list_any}
use Rattle.object_values.specs.declared.nodes.Node.{Node}
use Rattle.object_values.specs.contracts.nodes.NodePartialEq.TheImpl.{ghosts as node_eq}
use Rattle.object_values.specs.Exact.{node_exact}
use Rattle.object_values.specs.declared.views.View.{View}
use Rattle.object_values.specs.declared.calls.Call.{Call}
use Rattle.meaning_texts.specs.Limits.{height_limit}
use Rattle.meaning_graph.specs.Graphs.{Graph}
use Rattle.meaning_texts.specs.Lists.{IsIn}
use Rattle.meaning_texts.proofs.Lemmas.{in_either, in_all_pass, one_passes, passes_one, never_both, split_at, some_or_none, some_is_none, value_of_some}
use Rattle.std.proofs.lemmas.Bool.{cases_Bool}
use Rattle.meaning_tasks.specs.Tasks.{task_of}
use Rattle.meaning_tasks.specs.Needs.{Results, values_of, Grows, needs_of}
use Rattle.meaning_tasks.proofs.Lemmas.{local, one_list}
use Rattle.meaning_derive.specs.Derive.{Sources, Outcomes, names_for, derive, derived, IsFounded}
use Rattle.meaning_derive.specs.Chains.{IsNeed, LeadsOn, Chain, AreDifferent, IsCircular, IsRefusal, IsMet}
use Rattle.meaning_derive.specs.Calls.{Runs, IsFrontier}
use Rattle.meaning_derive.specs.Laws.{IsFoundedOrChained, EndOf, at_result, at_call, at_chain}
use Rattle.meaning_derive.proofs.Steps.{SameResults, same_values, grows_to}
use Rattle.meaning_derive.proofs.Present.{names_reached, needs_listed}
use Rattle.meaning_derive.proofs.Lower.{nothing_at_zero, falls}
use Rattle.meaning_derive.proofs.Heights.{at, needs, need_below, need_at_limit, missing_or_stopped, IsMissing, IsStopped}

-- a node stands in the list, or does not
pub in_or_not : (n : Node) (nodes : List Node) → IsIn n nodes ⊎ (IsIn n nodes → ⊥)
in_or_not n nodes = elim (cases_Bool (list_any (node_eq.eq n) nodes)) [
  | inl e ↦ let r = one_passes (node_eq.eq n) nodes e in inl (subst (λ z. IsIn z nodes) (sym ((node_exact n r.0).0 r.2)) r.1)
  | inr e ↦ inr (λ h. never_both (list_any (node_eq.eq n) nodes) (passes_one (node_eq.eq n) n nodes h ((node_exact n n).1 refl)) e)
]

-- ---- pieces of chains

module _ (g : Graph) (seen : Results) where
  -- one more node at the end
  leads_on : (front : List Node) (n m k : Node) → LeadsOn g seen n (front ++ m ∷ []) → IsNeed g seen m k → LeadsOn g seen n ((front ++ m ∷ []) ++ k ∷ [])
  leads_on [] n m k l need = (l.0, (need, tt))
  leads_on (f ∷ front) n m k l need = (l.0, leads_on front f m k l.1 need)

  pub chain_on : (front : List Node) (n m k : Node) → Chain g seen n (front ++ m ∷ []) → IsNeed g seen m k → Chain g seen n ((front ++ m ∷ []) ++ k ∷ [])
  chain_on [] n m k c need = (c.0, (need, tt))
  chain_on (f ∷ front) n m k c need = (c.0, leads_on front f m k c.1 need)

  -- without what stands after a node
  leads_up_to : (front back : List Node) (n m : Node) → LeadsOn g seen n (front ++ m ∷ back) → LeadsOn g seen n (front ++ m ∷ [])
  leads_up_to [] back n m l = (l.0, tt)
  leads_up_to (f ∷ front) back n m l = (l.0, leads_up_to front back f m l.1)

  chain_up_to : (front back : List Node) (n m : Node) → Chain g seen n (front ++ m ∷ back) → Chain g seen n (front ++ m ∷ [])
  chain_up_to [] back n m c = (c.0, tt)
  chain_up_to (f ∷ front) back n m c = (c.0, leads_up_to front back f m c.1)

  -- from a node on
  leads_behind : (front back : List Node) (n m : Node) → LeadsOn g seen n (front ++ m ∷ back) → LeadsOn g seen m back
  leads_behind [] back n m l = l.1
  leads_behind (f ∷ front) back n m l = leads_behind front back f m l.1

-- ---- lists of different nodes

different_push : (front : List Node) (x : Node) → AreDifferent front → (IsIn x front → ⊥) → AreDifferent (front ++ x ∷ [])
different_push [] x d apart = (λ h. h, tt)
different_push (f ∷ front) x d apart = (λ h. elim (in_either f front (x ∷ []) h) [ inl k ↦ d.0 k | inr k ↦ elim k [ inl e ↦ apart (inl (sym e)) | inr none ↦ none ] ], different_push front x d.1 (λ k. apart (inr k)))

-- the first node that stood before, with what is different before it
record Repeat (nodes : List Node) : Type 0 where
  front : List Node
  node : Node
  back : List Node
  is : nodes ≡ front ++ node ∷ back
  different : AreDifferent front
  repeated : IsIn node front

first_repeat : (front rest : List Node) → AreDifferent front → AreDifferent (front ++ rest) ⊎ Repeat (front ++ rest)
first_repeat front [] d = inl (subst AreDifferent (sym (append-nil front)) d)
first_repeat front (x ∷ rest) d = elim (in_or_not x front) [
  | inl k ↦ inr (record { front = front; node = x; back = rest; is = refl; different = d; repeated = k })
  | inr k ↦ rw append_assoc at (first_repeat (front ++ x ∷ []) rest (different_push front x d k))
]

-- a chain that is too long is circular in its front, or deep
refusal_of : (g : Graph) (seen : Results) (n : Node) (chain : List Node) → Chain g seen n chain → length chain ≡ height_limit + 1 → (refusal : List Node) × IsRefusal g seen n refusal
refusal_of g seen n chain c l = by_repeat (first_repeat [] chain tt)
  where
    by_repeat : AreDifferent chain ⊎ Repeat chain → (refusal : List Node) × IsRefusal g seen n refusal
    by_repeat (inl d) = (chain, inr (record { leads = c; long = l; different = d }))
    by_repeat (inr r) = (
      r.front ++ r.node ∷ [],
      inl (record {
        front = r.front;
        last = r.node;
        is = refl;
        leads = chain_up_to g seen r.front r.back n r.node (subst (λ z. Chain g seen n z) r.is c);
        different = r.different;
        repeated = r.repeated;
      }),
    )

-- a call that is run stays so where there are more results
pub runs_stay : (g : Graph) (seen more : Results) → Grows seen more → (n : Node) (call : Call) → Runs g seen n call → Runs g more n call
runs_stay g seen more grows n call r =
    let same_names = one_list _ _ _ _ r.listed.reached r.called.reached in
    let list : r.needs ≡ needs_of (task_of g n) (values_of seen) r.called.names = r.listed.listed ∙ ap (needs_of (task_of g n) (values_of seen)) same_names in
    let same : SameResults seen more (needs_of (task_of g n) (values_of seen) r.called.names) =
    λ m i. let v = value_of_some (seen m) (r.known m (subst (λ l. IsIn m l) (sym list) i)) in v.1 ∙ sym (grows m v.0 v.1) in
    let l = local g n seen more r.called.names r.called.reached (same_values seen more _ same) in
    record {
      needs = r.needs;
      listed = record { names = r.called.names; reached = l.reached; listed = list ∙ l.needs };
      known = λ m i. let v = value_of_some (seen m) (r.known m i) in ap is_some (grows m v.0 v.1);
      called = record { names = r.called.names; reached = l.reached; is = r.called.is ∙ l.call };
    }

module _ (g : Graph) (s : Sources) (outcomes : Outcomes) where
  abbrev all : Results
  all = derive g s outcomes height_limit

  abbrev from : ℕ → Results
  from h = at g s outcomes h

  -- ---- a founded node has no chain

  -- no chain leads from what is derived to itself
  no_loop : (h : ℕ) → h ≤ height_limit → (n : Node) (v : View) → from h n ≡ Some v → (front : List Node) → LeadsOn g all n (front ++ n ∷ []) → ⊥
  no_loop zero le n v e front l = nothing_at_zero g s outcomes n v e
  no_loop (suc h) le n v e front l =
      let i = falls g s outcomes (suc h) le n n v e front l in
      no_loop h (omega (arith, le)) n i.view (grows_to g s outcomes i.height h (omega (arith, i.low)) n i.view i.is) front l

  not_circular : (n : Node) (v : View) → all n ≡ Some v → (chain : List Node) → IsCircular g all n chain → ⊥
  not_circular n v e chain c = by_front parts.0 parts.1 (subst (λ l. Chain g all n l) (c.is ∙ ap (λ l. l ++ c.last ∷ []) parts.2 ∙ append_assoc parts.0 (c.last ∷ parts.1) (c.last ∷ [])) c.leads)
    where
      parts : (front back : List Node) × (c.front ≡ front ++ c.last ∷ back)
      parts = split_at c.last c.front c.repeated

      by_front : (front back : List Node) → Chain g all n (front ++ c.last ∷ (back ++ c.last ∷ [])) → ⊥
      by_front [] back k = no_loop height_limit (omega arith) c.last v (subst (λ z. all z ≡ Some v) k.0 e) back k.1
      by_front (f ∷ front) back k =
          let i = falls g s outcomes height_limit (omega arith) f c.last v (subst (λ z. all z ≡ Some v) k.0 e) front (leads_up_to g all front (back ++ c.last ∷ []) f c.last k.1) in
          no_loop i.height (omega (arith, i.low)) c.last i.view i.is back (leads_behind g all front (back ++ c.last ∷ []) f c.last k.1)

  -- a chain from what is derived at a height has no more nodes
  length_below : (rest : List Node) (n : Node) (h : ℕ) → h ≤ height_limit → (v : View) → from h n ≡ Some v → LeadsOn g all n rest → length rest < h
  length_below rest n zero le v e l = absurd (nothing_at_zero g s outcomes n v e)
  length_below [] n (suc h) le v e l = omega arith
  length_below (m ∷ rest) n (suc h) le v e l =
      let w = need_below g s outcomes h (omega (arith, le)) n m v e l.0 in
      let i = length_below rest m h (omega (arith, le)) w.0 w.1 l.1 in
      omega (arith, i)

  not_deep : (n : Node) (v : View) → all n ≡ Some v → (chain : List Node) → Chain g all n chain → length chain ≡ height_limit + 1 → ⊥
  not_deep n v e [] c l = c
  not_deep n v e (m ∷ rest) c l = let i = length_below rest m height_limit (omega arith) v (subst (λ z. all z ≡ Some v) c.0 e) c.1 in absurd (omega (arith, i, l))

  pub no_chain : (n : Node) → IsFounded g s outcomes n → (chain : List Node) → IsRefusal g (derived g s outcomes) n chain → ⊥
  no_chain n f chain (inl c) = let v = value_of_some (all n) f in not_circular n v.0 v.1 chain c
  no_chain n f chain (inr d) = let v = value_of_some (all n) f in not_deep n v.0 v.1 chain d.leads d.long

  -- ---- a node that isn't founded has one, or a call is missing

  frontier_of : (h : ℕ) → h ≤ height_limit → (n m : Node) → IsMet g all n m → IsStopped g s outcomes h m → (call : Call) × IsFrontier g s outcomes n call
  frontier_of h le n m met stop = (stop.call, record { from = record { node = m; met = met; runs = runs_stay g (from h) all (grows_to g s outcomes h height_limit le) m stop.call below }; outside = stop.outside })
    where
      below : Runs g (from h) m stop.call
      below = record {
        needs = needs g s outcomes h m;
        listed = needs_listed g s outcomes h m;
        known = in_all_pass (λ x. is_some (from h x)) (needs g s outcomes h m) stop.known;
        called = record { names = names_for g s m (from h); reached = names_reached g s outcomes h m; is = sym stop.is };
      }

  -- downwards, to a call or to many nodes
  dig : (h : ℕ) (front : List Node) (n m : Node) → length front + h ≤ height_limit → Chain g all n (front ++ m ∷ []) → from h m ≡ None → ((call : Call) × IsFrontier g s outcomes n call) ⊎ ((chain : List Node) × Chain g all n chain × (length chain ≡ length front + h + 1))
  dig zero front n m few c e = inr (front ++ m ∷ [], c, omega (arith, length-append front (m ∷ [])))
  dig (suc h) front n m few c e = by_cause (missing_or_stopped g s outcomes h m e)
      (λ k need none. dig h (front ++ m ∷ []) n k (omega (arith, few, length-append front (m ∷ []))) (chain_on g all front n m k c need) none)
    where
      by_cause : IsMissing g s outcomes h m ⊎ IsStopped g s outcomes h m
          → ((k : Node) → IsNeed g all m k → from h k ≡ None → ((call : Call) × IsFrontier g s outcomes n call) ⊎ ((chain : List Node) × Chain g all n chain × (length chain ≡ length (front ++ m ∷ []) + h + 1)))
          → ((call : Call) × IsFrontier g s outcomes n call) ⊎ ((chain : List Node) × Chain g all n chain × (length chain ≡ length front + suc h + 1))
      by_cause (inr stop) further = inl (frontier_of h (omega (arith, few)) n m (record { front = front; leads = c; short = omega (arith, few) }) stop)
      by_cause (inl q) further = elim (further q.node (need_at_limit g s outcomes h (omega (arith, few)) m q.node q.one) q.none) [
        | inl f ↦ inl f
        | inr r ↦ inr (r.0, r.1, omega (arith, r.2, length-append front (m ∷ [])))
      ]

  -- A result, a call at which the derivation stops, or a chain.
  pub result_call_or_chain : (n : Node) → EndOf g s outcomes n
  result_call_or_chain n = elim (some_or_none (all n)) [
    | inl v ↦ at_result (ap is_some v.1)
    | inr e ↦ elim (dig height_limit [] n n (omega arith) (refl, tt) e) [
      | inl f ↦ at_call f.0 f.1
      | inr r ↦ (let c = refusal_of g all n r.0 r.1 r.2 in at_chain c.0 c.1)
    ]
  ]

  -- Where each call has an outcome none is missing.
  pub founded_or_chained : ((call : Call) → IsSome (outcomes call)) → (n : Node) → IsFoundedOrChained g s outcomes n
  founded_or_chained total n = record {
    none = no_chain n;
    one = elim (result_call_or_chain n) [
      | at_result f ↦ inl f
      | at_call call f ↦ (let o = value_of_some (outcomes call) (total call) in some_is_none (outcomes call) o.0 o.1 f.outside)
      | at_chain chain c ↦ inr (chain, c)
    ];
  }
