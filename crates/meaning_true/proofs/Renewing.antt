-- That true records hold one above their deps.
use Rattle.std.proofs.Common.{◌≡◌, ℕ, suc, ◌<◌, ◌≤◌, ◌⊎◌, Bool, true, false, cond, List, [], ◌∷◌, inl, inr, sym, ap, ◌∙◌, subst, refl, arith}
use Rattle.std.specs.Prelude.{Some, IsSome, option_map, filter}
use Rattle.object_values.specs.declared.messages.Status.{Status}
use Rattle.object_values.specs.declared.nodes.Node.{Node}
use Rattle.object_values.specs.declared.views.View.{View}
use Rattle.meaning_texts.specs.Limits.{height_limit}
use Rattle.meaning_texts.specs.Lists.{IsIn}
use Rattle.meaning_texts.proofs.Lemmas.{value_of_some}
use Rattle.meaning_graph.specs.Graphs.{Graph}
use Rattle.meaning_tasks.specs.Values.{inherit, worst}
use Rattle.meaning_tasks.specs.Needs.{Results, Need, is_counted, nodes_of}
use Rattle.meaning_tasks.specs.Settle.{status_in, messages_in, worst_of}
use Rattle.meaning_tasks.specs.Laws.{AgreeAt}
use Rattle.meaning_tasks.proofs.Lemmas.{same_flat, full_needs_stay}
use Rattle.meaning_derive.specs.Derive.{Sources, text_of, Outcomes, derive, derived, HasHeight}
use Rattle.meaning_derive.proofs.Lemmas.{grows_to, height_above}
use Rattle.object_values.specs.declared.facts.FactDep.{FactDep}
use Rattle.object_values.specs.declared.facts.Fact.{Fact}
use Rattle.meaning_true.specs.Facts.{RecordIsTrue, IsAsSeen, needs_in, counted_in, view_of_record}
use Rattle.meaning_true.specs.Checked.{RecordHolds, IsDepAt}
use Rattle.meaning_true.proofs.Settling.{true_settles}

-- ---- lists

-- what counts is one of all
pub counted_sub : (needs : List Need) (m : Node) → IsIn m (nodes_of (filter (λ need. is_counted need.role) needs)) → IsIn m (nodes_of needs)
counted_sub [] m i = i
counted_sub (x ∷ needs) m i = by_role (is_counted x.role) (counted_sub needs m) i
  where
    by_role : (b : Bool) → (IsIn m (nodes_of (filter (λ need. is_counted need.role) needs)) → IsIn m (nodes_of needs)) → IsIn m (nodes_of (cond b (x ∷ filter (λ need. is_counted need.role) needs) (filter (λ need. is_counted need.role) needs))) → IsIn m (nodes_of (x ∷ needs))
    by_role true below (inl same) = inl same
    by_role true below (inr j) = inr (below j)
    by_role false below j = inr (below j)

-- each node of the deps is one of a dep
pub dep_of : (deps : List FactDep) (m : Node) → IsIn m (nodes_of (needs_in deps)) → (d : FactDep) × IsIn d deps × (m ≡ d.node)
dep_of [] m i = absurd i
dep_of (d ∷ deps) m (inl same) = (d, inl refl, same)
dep_of (d ∷ deps) m (inr j) = let r = dep_of deps m j in (r.0, inr r.1, r.2)

pub of_dep : (deps : List FactDep) (d : FactDep) → IsIn d deps → IsIn d.node (nodes_of (needs_in deps))
of_dep [] d i = absurd i
of_dep (x ∷ deps) d (inl same) = inl (ap (λ (y : FactDep). y.node) same)
of_dep (x ∷ deps) d (inr j) = inr (of_dep deps d j)

same_worst : (seen more : Results) (own : Status) (nodes : List Node) → AgreeAt seen more nodes → worst_of seen own nodes ≡ worst_of more own nodes
same_worst seen more own [] a = refl
same_worst seen more own (n ∷ nodes) a = let p = a n (inl refl) in let q = same_worst seen more own nodes (λ m i. a m (inr i)) in λ i. worst (status_in (p i)) (q i)

pub view_same : (seen more : Results) (fact : Fact) → AgreeAt seen more (counted_in fact.deps) → view_of_record seen fact ≡ view_of_record more fact
view_same seen more fact a =
    let w = same_worst seen more fact.own_status (counted_in fact.deps) a in
    let m = same_flat (λ n. messages_in (seen n)) (λ n. messages_in (more n)) (counted_in fact.deps) (λ n i. ap messages_in (a n i)) in
    λ i. record { value = fact.value; status = w i; messages = inherit (m i) fact.own_messages }

-- ---- renewing

module _ (g : Graph) (s : Sources) (outcomes : Outcomes) (fact : Fact) (is : RecordIsTrue g outcomes fact) (heights : Node → ℕ) (top : ℕ) (low : top < height_limit)
    (each : (d : FactDep) → IsIn d fact.deps → IsDepAt g s outcomes d (heights d.node) × (heights d.node ≤ top)) where
  -- a dep has its result at the greatest height already
  there : (d : FactDep) → IsIn d fact.deps → (view : View) × (derive g s outcomes top d.node ≡ Some view)
  there d i =
      let at = each d i in
      let v = value_of_some (derive g s outcomes (heights d.node) d.node) at.0.has.there in
      (v.0, grows_to g s outcomes (heights d.node) top at.1 d.node v.0 v.1)

  all_there : (m : Node) → IsIn m (nodes_of (needs_in fact.deps)) → IsSome (derive g s outcomes top m)
  all_there m i =
      let d = dep_of fact.deps m i in
      let v = there d.0 d.1 in
      subst (λ z. IsSome (derive g s outcomes top z)) (sym d.2) (subst IsSome (sym v.1) refl)

  agree : AgreeAt (derive g s outcomes top) (derived g s outcomes) (nodes_of (needs_in fact.deps))
  agree m i = let v = value_of_some (derive g s outcomes top m) (all_there m i) in v.1 ∙ sym (grows_to g s outcomes top height_limit (omega (arith, low)) m v.0 v.1)

  as_seen : IsAsSeen (derive g s outcomes top) fact
  as_seen d i = ap (option_map (λ (v : View). v.value)) (agree d.node (of_dep fact.deps d i)) ∙ (each d i).0.seen

  pub renews_at : ((top ≡ 0) ⊎ ((d : FactDep) × IsIn d fact.deps × (heights d.node ≡ top))) → RecordHolds g s outcomes fact (view_of_record (derived g s outcomes) fact) (suc top)
  renews_at tight =
      let settled = true_settles g s outcomes top fact is as_seen in
      let view = view_same (derive g s outcomes top) (derived g s outcomes) fact (λ m i. agree m (counted_sub (needs_in fact.deps) m i)) in
      let found : derive g s outcomes (suc top) fact.node ≡ Some (view_of_record (derived g s outcomes) fact) = settled.is ∙ ap Some view in
      let carried = full_needs_stay g (text_of s) fact.node (derive g s outcomes top) (derived g s outcomes) (nodes_of (needs_in fact.deps)) (grows_to g s outcomes top height_limit (omega (arith, low))) settled.needs all_there in
      record {
        needs = carried.needs;
        seen = λ d i. (each d i).0.seen;
        value = refl;
        high = omega (arith, low);
        is = found;
        has = height_above g s outcomes fact.node top (omega (arith, low)) (subst IsSome (sym found) refl) (elim tight [
          | inl zero_is ↦ inl zero_is
          | inr d ↦ inr (d.0.node, record { needs = nodes_of (needs_in fact.deps); listed = carried.needs; one = of_dep fact.deps d.0 d.1 }, subst (λ h. HasHeight g s outcomes d.0.node h) d.2 (each d.0 d.1).0.has)
        ]);
      }

pub renews : (g : Graph) (s : Sources) (outcomes : Outcomes) (fact : Fact) → RecordIsTrue g outcomes fact → (heights : Node → ℕ) (top : ℕ) → top < height_limit
    → ((d : FactDep) → IsIn d fact.deps → IsDepAt g s outcomes d (heights d.node) × (heights d.node ≤ top))
    → ((top ≡ 0) ⊎ ((d : FactDep) × IsIn d fact.deps × (heights d.node ≡ top)))
    → RecordHolds g s outcomes fact (view_of_record (derived g s outcomes) fact) (suc top)
renews g s outcomes fact is heights top low each tight = renews_at g s outcomes fact is heights top low each tight
