-- What stays of records under other results.
use Rattle.std.proofs.Common.{◌≡◌, ℕ, List, ◌∷◌, inl, sym, ap, ◌∙◌, subst, refl}
use Rattle.std.specs.Prelude.{Option, Some, None, option_map}
use Rattle.object_values.specs.declared.nodes.Node.{Node}
use Rattle.object_values.specs.declared.views.Value.{Value}
use Rattle.object_values.specs.declared.views.View.{View}
use Rattle.meaning_texts.specs.Limits.{height_limit}
use Rattle.meaning_texts.specs.Lists.{IsIn}
use Rattle.meaning_graph.specs.Graphs.{Text, Graph}
use Rattle.meaning_tasks.specs.Tasks.{Task, given, picked, mapped, packed, tooled, unfit, task_of}
use Rattle.meaning_tasks.specs.Needs.{Results, Grows, Known, values_of, Need, nodes_of, task_needs, needs_of, Needs}
use Rattle.meaning_tasks.proofs.Lemmas.{full_needs_stay}
use Rattle.meaning_derive.specs.Derive.{Sources, text_of, Outcomes, derived}
use Rattle.meaning_derive.specs.Laws.{HasMore}
use Rattle.meaning_derive.proofs.Lemmas.{derive_more, same_height}
use Rattle.object_values.specs.declared.facts.FactDep.{FactDep}
use Rattle.object_values.specs.declared.facts.Fact.{Fact}
use Rattle.meaning_true.specs.Facts.{RecordIsTrue, needs_in, need_of}
use Rattle.meaning_true.specs.Checked.{RecordHolds}
use Rattle.meaning_true.proofs.Settling.{has_result}

-- ---- more outcomes

view_of_value : (o : Option View) (value : Option Value) → option_map (λ (v : View). v.value) o ≡ Some value → (view : View) × (o ≡ Some view) × (view.value ≡ value)
view_of_value None value e = let no : ⊥ = cc in absurd no
view_of_value (Some view) value e = (view, refl, cc)

-- what is seen of a node stays
pub seen_on : (now more : Results) → Grows now more → (n : Node) (value : Option Value) → values_of now n ≡ Some value → values_of more n ≡ Some value
seen_on now more grows n value e =
    let v = view_of_value (now n) value e in
    ap (option_map (λ (w : View). w.value)) (grows n v.0 v.1) ∙ ap Some v.2

pub stays_on : (g : Graph) (s : Sources) (outcomes more : Outcomes) → HasMore outcomes more → (fact : Fact) (view : View) (height : ℕ) → RecordHolds g s outcomes fact view height → RecordHolds g s more fact view height
stays_on g s outcomes more f fact view height holds = record {
  needs = (full_needs_stay g (text_of s) fact.node (derived g s outcomes) (derived g s more) (nodes_of (needs_in fact.deps)) (derive_more g s outcomes more f height_limit) holds.needs (λ m i. has_result (derived g s outcomes) fact.deps holds.seen m i)).needs;
  seen = λ d i. seen_on (derived g s outcomes) (derived g s more) (derive_more g s outcomes more f height_limit) d.node d.value (holds.seen d i);
  value = holds.value;
  high = holds.high;
  is = derive_more g s outcomes more f height fact.node view holds.is;
  has = same_height g s outcomes more f fact.node height holds.high holds.has;
}

-- ---- the first dep

first_same : (t : Task) (known other : Known) (names others : List Text) (x : Need) (rest : List Need) → task_needs t known names ≡ x ∷ rest → IsIn x.node (needs_of t other others)
first_same (given name) known other names others x rest e = let no : ⊥ = cc in absurd no
first_same (picked base key) known other names others x rest e = inl (cc)
first_same (mapped base f) known other names others x rest e = inl (cc)
first_same (packed parts) known other names others x rest e = subst (λ l. IsIn x.node (nodes_of l)) (sym e) (inl refl)
first_same (tooled t) known other names others x rest e = inl (cc)
first_same unfit known other names others x rest e = let no : ⊥ = cc in absurd no

pub first_need : (g : Graph) (outcomes : Outcomes) (fact : Fact) → RecordIsTrue g outcomes fact → (d : FactDep) (rest : List FactDep) → fact.deps ≡ d ∷ rest → (now : Results) (needs : List Node) → Needs g fact.node now needs → IsIn d.node needs
first_need g outcomes fact is d rest e now needs listed =
    let first = first_same (task_of g fact.node) _ (values_of now) is.names listed.names (need_of d) (needs_in rest) (sym is.needs ∙ ap needs_in e) in
    subst (λ l. IsIn d.node l) (sym listed.listed) first
