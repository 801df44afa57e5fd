-- That what is noted of closed nodes is true.
use Rattle.std.proofs.Common.{◌≡◌, Bool, true, false, cond, List, [], ◌∷◌, inl, inr, sym, ap, ◌∙◌, subst, refl}
use Rattle.std.specs.Prelude.{◌↔◌, Option, Some, None, option_map}
use Rattle.object_values.specs.declared.messages.Status.TheVariants.{Abort}
use Rattle.object_values.specs.declared.nodes.Node.{Node}
use Rattle.object_values.specs.contracts.nodes.NodePartialEq.TheImpl.{ghosts as node_eq}
use Rattle.object_values.specs.Exact.{node_exact}
use Rattle.object_values.specs.declared.views.Value.{Value}
use Rattle.object_values.specs.declared.views.View.{View}
use Rattle.meaning_texts.specs.Lists.{IsIn}
use Rattle.meaning_graph.specs.Graphs.{Graph}
use Rattle.meaning_tasks.specs.Labels.{label_of}
use Rattle.meaning_tasks.specs.Tasks.{task_of}
use Rattle.meaning_tasks.specs.Needs.{Results, values_of, AgreeOn, nodes_of, needs_of, counted_needs}
use Rattle.meaning_tasks.specs.Settle.{own_of, settled}
use Rattle.meaning_tasks.specs.Maps.{IsResultOf, IsResultMap}
use Rattle.meaning_tasks.specs.Laws.{IsSameUnder}
use Rattle.meaning_tasks.proofs.Lemmas.{local, task_free}
use Rattle.meaning_derive.specs.Derive.{Outcomes, outcome_for}
use Rattle.object_values.specs.declared.facts.FactDep.{FactDep}
use Rattle.object_values.specs.declared.facts.Fact.{Fact}
use Rattle.meaning_true.specs.Facts.{RecordIsTrue, DepsAreAlike, known_of_deps, results_seen, view_seen}
use Rattle.meaning_true.specs.Closed.{IsClosedBy}
use Rattle.meaning_true.proofs.Settling.{seen_values, known_agrees}
use Rattle.meaning_true.proofs.RolesLocal.{roles_local}

-- ---- what was seen as a map of results

-- what is seen of a node is seen of a dep
seen_of_dep : (deps : List FactDep) (n : Node) (value : Option Value) → known_of_deps deps n ≡ Some value → (d : FactDep) × IsIn d deps × (n ≡ d.node) × (d.value ≡ value)
seen_of_dep [] n value e = let no : ⊥ = cc in absurd no
seen_of_dep (d ∷ deps) n value e = by_test (node_eq.eq n d.node) refl e (λ k. seen_of_dep deps n value k)
  where
    by_test : (b : Bool) → node_eq.eq n d.node ≡ b → cond b (Some d.value) (known_of_deps deps n) ≡ Some value
        → (known_of_deps deps n ≡ Some value → (x : FactDep) × IsIn x deps × (n ≡ x.node) × (x.value ≡ value))
        → (x : FactDep) × IsIn x (d ∷ deps) × (n ≡ x.node) × (x.value ≡ value)
    by_test true t k below = (d, inl refl, (node_exact n d.node).0 t, cc)
    by_test false t k below = let r = below k in (r.0, inr r.1, r.2, r.3)

valued_seen : (value : Option Value) → ((view_seen value).value ≡ None) ↔ ((view_seen value).status ≡ Abort)
valued_seen None = (λ e. refl, λ e. refl)
valued_seen (Some v) = (λ e. cc, λ e. cc)

result_seen : (g : Graph) (n : Node) (view : View) (value : Option Value) → IsResultOf g n view → view.value ≡ value → IsResultOf g n (view_seen value)
result_seen g n view value is same = record {
  fits = is.fits;
  valued = valued_seen value;
  kind = λ t k v typed of e. is.kind t k v typed of (same ∙ e);
}

-- ---- truth

pub closed_true : (g : Graph) (outcomes : Outcomes) (seen : Results) (fact : Fact) → IsClosedBy g outcomes seen fact → RecordIsTrue g outcomes fact
closed_true g outcomes seen fact is = record {
  fits = is.fits;
  stepped = is.stepped;
  alike = alike;
  results = results;
  names = is.names;
  reached = same.reached;
  needs = is.needs ∙ roles_local (values_of seen) (values_of noted) is.names (task_of g fact.node) agree;
  outcome = is.outcome;
  given = ap (outcome_for outcomes) (sym same.call) ∙ is.given;
  own = is.own;
  own_is = is.own_is ∙ task_free (label_of g fact.node) (λ name. None) (values_of seen) is.outcome g fact.node is.stepped ∙ same.own (λ name. None) is.outcome ∙ sym (task_free (label_of g fact.node) (λ name. None) (values_of noted) is.outcome g fact.node is.stepped);
  value = is.value ∙ ap (λ o. (settled seen o (counted_needs (task_of g fact.node) (values_of seen) is.names)).value) own_then ∙ same.value (λ name. None) is.outcome ∙ ap (λ o. (settled noted o (counted_needs (task_of g fact.node) (values_of noted) is.names)).value) (sym (own_then ∙ same.own (λ name. None) is.outcome));
  status = is.status;
  messages = is.messages;
}
  where
    noted : Results
    noted = results_seen fact.deps

    as_seen : (d : FactDep) → IsIn d fact.deps → values_of seen d.node ≡ Some d.value
    as_seen d i = let at = is.each d i in ap (option_map (λ (v : View). v.value)) at.is ∙ ap Some at.value

    agree : AgreeOn (values_of seen) (values_of noted) (needs_of (task_of g fact.node) (values_of seen) is.names)
    agree m i = sym (seen_values fact.deps m ∙ known_agrees seen fact.deps as_seen m (subst (λ l. IsIn m l) (sym (ap nodes_of is.needs)) i))

    same : IsSameUnder g fact.node seen noted is.names
    same = local g fact.node seen noted is.names is.reached agree

    own_then : is.own ≡ own_of (label_of g fact.node) (λ name. None) (task_of g fact.node) (values_of seen) is.outcome
    own_then = is.own_is ∙ task_free (label_of g fact.node) (λ name. None) (values_of seen) is.outcome g fact.node is.stepped

    alike : DepsAreAlike fact.deps
    alike d e i j one = let k : Some d.value ≡ Some e.value = sym (as_seen d i) ∙ ap (values_of seen) one ∙ as_seen e j in cc

    results : IsResultMap g noted
    results n view e = at (known_of_deps fact.deps n) refl e
      where
        at : (o : Option (Option Value)) → known_of_deps fact.deps n ≡ o → option_map view_seen o ≡ Some view → IsResultOf g n view
        at None k h = let no : ⊥ = cc in absurd no
        at (Some value) k h =
            let d = seen_of_dep fact.deps n value k in
            let s = is.each d.0 d.1 in
            let r : IsResultOf g d.0.node (view_seen value) = result_seen g d.0.node s.view value s.result (s.value ∙ d.3) in
            let v : view_seen value ≡ view = cc in
            subst (λ w. IsResultOf g n w) v (subst (λ m. IsResultOf g m (view_seen value)) (sym d.2) r)
