-- The needs by which a derivation goes are those of the relation, since only names of sources have lines there.
use Rattle.std.proofs.Common.{◌≡◌, ℕ, zero, suc, true, List, [], ◌∷◌, inl, inr, sym, ap, ◌∙◌, refl, is_some}
use Rattle.std.specs.Prelude.{Option, Some, None, option_map}
use Rattle.std.specs.FinMap as map
use Rattle.std.specs.List.{list_any}
use Rattle.std.specs.Cmp.{Equal-is}
use Rattle.std.specs.Ordering.{eq_by_cmp}
use Rattle.object_values.specs.declared.nodes.Node.{Node}
use Rattle.meaning_texts.specs.Expressions.{name_cmp}
use Rattle.meaning_graph.specs.Graphs.{Text, Graph}
use Rattle.meaning_texts.specs.Lists.{IsIn}
use Rattle.std.proofs.lemmas.Bool.{or_cases}
use Rattle.meaning_tasks.specs.Nodes.{source_node}
use Rattle.meaning_tasks.specs.Labels.{label_of}
use Rattle.meaning_tasks.specs.Tasks.{Task, given, picked, mapped, packed, tooled, unfit, task_of}
use Rattle.meaning_tasks.specs.Needs.{Results, Known, values_of, has_value, own_lines, other_lines, needs_of, ReachedNames, Needs}
use Rattle.meaning_tasks.specs.Settle.{given_own, settled}
use Rattle.meaning_tasks.proofs.Lemmas.{cmp_same, all_reached, IsValued, from_where}
use Rattle.meaning_derive.specs.Derive.{Sources, text_of, Outcomes, names_for, derive}

tied_in : (x : Text) (names : List Text) → list_any (eq_by_cmp name_cmp x) names ≡ true → IsIn x names
tied_in x [] h = cc
tied_in x (y ∷ names) h = elim (or_cases (eq_by_cmp name_cmp x y) (list_any (eq_by_cmp name_cmp x) names) h) [
  | inl e ↦ inl (cmp_same x y ((Equal-is (name_cmp x y)).0 e))
  | inr k ↦ inr (tied_in x names k)
]

-- a name with a text is one of the names
pub has_key : (s : Sources) (x text : Text) → text_of s x ≡ Some text → IsIn x (map.keys s)
has_key s x text h = tied_in x (map.keys s) (sym (map.contains_key-keys s x) ∙ ap is_some h)

-- Only names of the sources have a source node with a value.
abbrev OnlyPresent : Sources → Known → Type 0
OnlyPresent s known = (x : Text) → IsValued (known (source_node x)) → IsIn x (map.keys s)

only_listed : (s : Sources) (known : Known) → OnlyPresent s known → (t : Task) (x y : Text) → IsIn y (other_lines t known x) → IsIn x (map.keys s)
only_listed s known only (given name) x y h = absurd h
only_listed s known only (picked base key) x y h = absurd h
only_listed s known only (mapped base f) x y h = absurd h
only_listed s known only (packed parts) x y h = absurd h
only_listed s known only unfit x y h = absurd h
only_listed s known only (tooled t) x y h = only x (from_where (known (source_node x)) y _ (from_where (known t.base) y _ h).1).0

given_present : (s : Sources) (seen : Results) (label x : Text) (o : Option Text) → text_of s x ≡ o → has_value (option_map (λ v. v.value) (Some (settled seen (given_own label x o) []))) ≡ true → IsIn x (map.keys s)
given_present s seen label x None e h = cc
given_present s seen label x (Some text) e h = has_key s x text e

derived_present : (g : Graph) (s : Sources) (outcomes : Outcomes) (h : ℕ) → OnlyPresent s (values_of (derive g s outcomes h))
unfolding derive task_of
derived_present g s outcomes zero x v = cc
derived_present g s outcomes (suc h) x v = given_present s (derive g s outcomes h) (label_of g (source_node x)) x (text_of s x) refl v

-- the computed names are the reached ones
pub names_reached : (g : Graph) (s : Sources) (outcomes : Outcomes) (h : ℕ) (n : Node) → ReachedNames g n (derive g s outcomes h) (names_for g s n (derive g s outcomes h))
names_reached g s outcomes h n =
    let known : Known = values_of (derive g s outcomes h) in
    all_reached (map.keys s) (own_lines (task_of g n) known) (other_lines (task_of g n) known) (only_listed s known (derived_present g s outcomes h) (task_of g n))

-- the needs at a height
abbrev pub needs_at : Graph → Sources → Outcomes → ℕ → Node → List Node
needs_at g s outcomes h n = needs_of (task_of g n) (values_of (derive g s outcomes h)) (names_for g s n (derive g s outcomes h))

pub needs_listed : (g : Graph) (s : Sources) (outcomes : Outcomes) (h : ℕ) (n : Node) → Needs g n (derive g s outcomes h) (needs_at g s outcomes h n)
needs_listed g s outcomes h n = record { names = names_for g s n (derive g s outcomes h); reached = names_reached g s outcomes h n; listed = refl }
