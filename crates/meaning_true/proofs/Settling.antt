-- That true records settle.
use Rattle.std.proofs.Common.{◌≡◌, ℕ, Bool, true, false, cond, List, [], ◌∷◌, filter, inl, inr, sym, ap, ◌∙◌, subst, refl}
use Rattle.std.specs.Prelude.{Option, Some, None, IsSome, option_map}
use Rattle.object_values.specs.declared.nodes.Node.{Node}
use Rattle.object_values.specs.contracts.nodes.NodePartialEq.TheImpl.{ghosts as node_eq}
use Rattle.object_values.specs.Exact.{node_exact}
use Rattle.object_values.specs.declared.views.Value.{Value}
use Rattle.object_values.specs.declared.views.View.{View}
use Rattle.object_values.specs.declared.calls.Call.{Call}
use Rattle.object_values.specs.declared.calls.Outcome.{Outcome}
use Rattle.meaning_texts.specs.Lists.{IsIn}
use Rattle.meaning_graph.specs.Graphs.{Graph}
use Rattle.meaning_tasks.specs.Labels.{label_of}
use Rattle.meaning_tasks.specs.Values.{inherit}
use Rattle.meaning_tasks.specs.Tasks.{Own, task_of}
use Rattle.meaning_tasks.specs.Needs.{Results, values_of, AgreeOn, Need, is_counted, nodes_of, needs_of, counted_needs}
use Rattle.meaning_tasks.specs.Calls.{call_of}
use Rattle.meaning_tasks.specs.Settle.{own_of, worst_of, messages_of, settled, settle}
use Rattle.meaning_tasks.specs.Laws.{IsSameUnder}
use Rattle.meaning_tasks.proofs.Lemmas.{local, task_free}
use Rattle.meaning_derive.specs.Derive.{Sources, text_of, Outcomes, outcome_for, derive}
use Rattle.meaning_derive.specs.Laws.{HasMore}
use Rattle.meaning_derive.proofs.Lemmas.{from_settled}
use Rattle.object_values.specs.declared.facts.FactDep.{FactDep}
use Rattle.object_values.specs.declared.facts.Fact.{Fact}
use Rattle.meaning_true.specs.Facts.{RecordIsTrue, IsAsSeen, needs_in, known_of_deps, results_seen, view_seen, counted_in, view_of_record}
use Rattle.meaning_true.specs.Laws.{Settled}

-- ---- what was seen

-- the view that stands for what was seen has its value
pub seen_values : (deps : List FactDep) (n : Node) → values_of (results_seen deps) n ≡ known_of_deps deps n
seen_values deps n = at (known_of_deps deps n)
  where
    at : (o : Option (Option Value)) → option_map (λ (v : View). v.value) (option_map view_seen o) ≡ o
    at None = refl
    at (Some value) = refl

-- where each dep has the value that was seen, the map of what was seen agrees with the other on all of them
pub known_agrees : (now : Results) (deps : List FactDep) → ((d : FactDep) → IsIn d deps → values_of now d.node ≡ Some d.value) → (m : Node) → IsIn m (nodes_of (needs_in deps)) → known_of_deps deps m ≡ values_of now m
known_agrees now [] f m i = absurd i
known_agrees now (d ∷ deps) f m i = by_test (node_eq.eq m d.node) refl (λ j. known_agrees now deps (λ x k. f x (inr k)) m j)
  where
    by_test : (b : Bool) → node_eq.eq m d.node ≡ b → (IsIn m (nodes_of (needs_in deps)) → known_of_deps deps m ≡ values_of now m) → cond b (Some d.value) (known_of_deps deps m) ≡ values_of now m
    by_test true e below = sym (f d (inl refl)) ∙ ap (values_of now) (sym ((node_exact m d.node).0 e))
    by_test false e below = elim i [
      | inl same ↦ (let no : false ≡ true = sym e ∙ (node_exact m d.node).1 same in cc)
      | inr j ↦ below j
    ]

-- and each of them has a result there
pub has_result : (now : Results) (deps : List FactDep) → ((d : FactDep) → IsIn d deps → values_of now d.node ≡ Some d.value) → (m : Node) → IsIn m (nodes_of (needs_in deps)) → IsSome (now m)
has_result now [] f m i = absurd i
has_result now (d ∷ deps) f m (inl same) = at (now m) (ap (values_of now) same ∙ f d (inl refl))
  where
    at : (o : Option View) → option_map (λ (v : View). v.value) o ≡ Some d.value → IsSome o
    at None e = cc
    at (Some v) e = refl
has_result now (d ∷ deps) f m (inr j) = has_result now deps (λ x k. f x (inr k)) m j

-- ---- settling

pub true_settles : (g : Graph) (s : Sources) (outcomes : Outcomes) (h : ℕ) (fact : Fact) → RecordIsTrue g outcomes fact → IsAsSeen (derive g s outcomes h) fact → Settled g s outcomes h fact
true_settles g s outcomes h fact is as_seen = record {
  needs = record { names = is.names; reached = same.reached; listed = dep_nodes ∙ same.needs };
  is = from_settled g s outcomes h fact.node (view_of_record now fact) (record {
    needs = needs_of (task_of g fact.node) (values_of now) is.names;
    listed = record { names = is.names; reached = same.reached; listed = refl };
    known = λ m i. has_result now fact.deps as_seen m (subst (λ l. IsIn m l) (sym (dep_nodes ∙ same.needs)) i);
    call = call_of g (task_of g fact.node) (values_of now) is.names;
    called = record { names = is.names; reached = same.reached; is = refl };
    outcome = is.outcome;
    given = ap (outcome_for outcomes) (sym same.call) ∙ is.given;
    settles = record { names = is.names; reached = same.reached; is = view_same };
  });
}
  where
    now : Results
    now = derive g s outcomes h

    seen : Results
    seen = results_seen fact.deps

    dep_nodes : nodes_of (needs_in fact.deps) ≡ needs_of (task_of g fact.node) (values_of seen) is.names
    dep_nodes = ap nodes_of is.needs

    agree : AgreeOn (values_of seen) (values_of now) (needs_of (task_of g fact.node) (values_of seen) is.names)
    agree m i = seen_values fact.deps m ∙ known_agrees now fact.deps as_seen m (subst (λ l. IsIn m l) (sym dep_nodes) i)

    same : IsSameUnder g fact.node seen now is.names
    same = local g fact.node seen now is.names is.reached agree

    own_now : is.own ≡ own_of (label_of g fact.node) (text_of s) (task_of g fact.node) (values_of now) is.outcome
    own_now = is.own_is ∙ task_free (label_of g fact.node) (text_of s) (values_of seen) is.outcome g fact.node is.stepped ∙ same.own (text_of s) is.outcome

    own_then : is.own ≡ own_of (label_of g fact.node) (text_of s) (task_of g fact.node) (values_of seen) is.outcome
    own_then = is.own_is ∙ task_free (label_of g fact.node) (text_of s) (values_of seen) is.outcome g fact.node is.stepped

    counted_now : counted_in fact.deps ≡ counted_needs (task_of g fact.node) (values_of now) is.names
    counted_now = ap (λ needs. nodes_of (filter (λ (need : Need). is_counted need.role) needs)) is.needs ∙ same.counted

    value_now : fact.value ≡ (settle g (text_of s) fact.node now is.outcome is.names).value
    value_now = is.value ∙ ap (λ o. (settled seen o (counted_needs (task_of g fact.node) (values_of seen) is.names)).value) own_then ∙ same.value (text_of s) is.outcome

    view_same : view_of_record now fact ≡ settle g (text_of s) fact.node now is.outcome is.names
    view_same = λ i. record {
      value = value_now i;
      status = worst_of now ((is.status ∙ ap (λ (o : Own). o.status) own_now) i) (counted_now i);
      messages = inherit (messages_of now (counted_now i)) ((is.messages ∙ ap (λ (o : Own). o.messages) own_now) i);
    }

-- ---- more outcomes

given_stays : (outcomes more : Outcomes) → HasMore outcomes more → (call : Option Call) (o : Option Outcome) → outcome_for outcomes call ≡ Some o → outcome_for more call ≡ Some o
given_stays outcomes more f None o e = e
given_stays outcomes more f (Some call) o e = at (outcomes call) refl e
  where
    at : (r : Option Outcome) → outcomes call ≡ r → option_map (λ o. Some o) r ≡ Some o → option_map (λ o. Some o) (more call) ≡ Some o
    at None is k = cc
    at (Some r) is k = ap (option_map (λ o. Some o)) (f call r is) ∙ k

pub truth_stays : (g : Graph) (outcomes more : Outcomes) → HasMore outcomes more → (fact : Fact) → RecordIsTrue g outcomes fact → RecordIsTrue g more fact
truth_stays g outcomes more f fact is = record {
  fits = is.fits;
  stepped = is.stepped;
  alike = is.alike;
  results = is.results;
  names = is.names;
  reached = is.reached;
  needs = is.needs;
  outcome = is.outcome;
  given = given_stays outcomes more f _ is.outcome is.given;
  own = is.own;
  own_is = is.own_is;
  value = is.value;
  status = is.status;
  messages = is.messages;
}
