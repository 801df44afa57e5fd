-- That needs keep their roles under other results.
use Rattle.std.proofs.Common.{◌≡◌, List, [], ◌∷◌, ◌++◌, inl, sym, ◌∙◌, subst, refl}
use Rattle.std.proofs.lemmas.List.{append-nil}
use Rattle.object_values.specs.declared.nodes.Node.{Node}
use Rattle.meaning_graph.specs.Graphs.{Text}
use Rattle.meaning_texts.specs.Lists.{IsIn}
use Rattle.meaning_tasks.specs.Tasks.{Task, given, picked, mapped, packed, tooled, unfit}
use Rattle.meaning_tasks.specs.Needs.{Known, AgreeOn, needed, reached, in_role, picked_element, part_nodes, task_needs, needs_of, counted_needs, reached_needs}
use Rattle.meaning_tasks.proofs.Lemmas.{tool_needs_are, tool_counted_are, tool_reached_are, picked_counted_are, picked_reached_are, packed_counted_are, packed_reached_are, counted_local, where_same}

-- all in the first role, where none is in the other
all_first : (nodes counted sources : List Node) → counted ≡ nodes → sources ≡ [] → in_role needed nodes ≡ in_role needed counted ++ in_role reached sources
all_first nodes counted sources c r = sym (append-nil (in_role needed nodes)) ∙ (λ i. in_role needed (sym c i) ++ in_role reached (sym r i))

pub by_roles : (t : Task) (known : Known) (names : List Text) → task_needs t known names ≡ in_role needed (counted_needs t known names) ++ in_role reached (reached_needs t known names)
by_roles (given name) known names = refl
by_roles (picked base key) known names = all_first (base ∷ picked_element key (known base)) _ _ (picked_counted_are base key known names) (picked_reached_are base key known names)
by_roles (mapped base f) known names = refl
by_roles (packed parts) known names = all_first (part_nodes parts) _ _ (packed_counted_are parts known names) (packed_reached_are parts known names)
by_roles (tooled t) known names =
    let c = tool_counted_are t known names in
    let r = tool_reached_are t known names in
    λ i. in_role needed (sym c i) ++ in_role reached (sym r i)
by_roles unfit known names = refl

module _ (known other : Known) (names : List Text) where
  reached_same : (t : Task) → AgreeOn known other (needs_of t known names) → reached_needs t known names ≡ reached_needs t other names
  reached_same (given name) a = refl
  reached_same (picked base key) a = picked_reached_are base key known names ∙ sym (picked_reached_are base key other names)
  reached_same (mapped base f) a = refl
  reached_same (packed parts) a = packed_reached_are parts known names ∙ sym (packed_reached_are parts other names)
  reached_same (tooled t) a =
      let base = a t.base (subst (λ l. IsIn t.base l) (sym (tool_needs_are t known names)) (inl refl)) in
      tool_reached_are t known names ∙ where_same (known t.base) (other t.base) _ _ base (λ v. refl) ∙ sym (tool_reached_are t other names)
  reached_same unfit a = refl

  pub roles_local : (t : Task) → AgreeOn known other (needs_of t known names) → task_needs t known names ≡ task_needs t other names
  roles_local t a =
      let c = counted_local known other t names a in
      let r = reached_same t a in
      by_roles t known names ∙ (λ i. in_role needed (c i) ++ in_role reached (r i)) ∙ sym (by_roles t other names)
