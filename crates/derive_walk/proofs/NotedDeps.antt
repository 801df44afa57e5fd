-- The deps of a note: the needs of its node in their roles, each with its result.
use Rattle.std.proofs.Common.{◌≡◌, true, List, [], ◌∷◌, ◌++◌, map, inl, inr, sym, ap, ◌∙◌, subst, refl}
use Rattle.std.specs.Prelude.{Some, option_map, All}
use Rattle.std.proofs.lemmas.List.{append-nil, append_cancel_left}
use Rattle.object_values.specs.declared.nodes.Node.{Node}
use Rattle.object_values.specs.declared.records.Role.{Role}
use Rattle.object_values.specs.declared.records.Role.TheVariants.{Needed as AsNeeded, Reached as AsReached}
use Rattle.object_values.specs.declared.facts.FactDep.{FactDep}
use Rattle.meaning_texts.specs.Lists.{IsIn}
use Rattle.meaning_texts.proofs.Lemmas.{in_left, in_right, in_either, from_map, all_in}
use Rattle.meaning_graph.specs.Graphs.{Text, Graph}
use Rattle.meaning_tasks.specs.Nodes.{source_node}
use Rattle.meaning_tasks.specs.Tasks.{Task, given, picked, mapped, packed, tooled, unfit, task_of}
use Rattle.meaning_tasks.specs.Needs.{Known, values_of, needed, reached, in_role, task_needs, needs_of, counted_needs, reached_needs, Needs, own_lines, other_lines}
use Rattle.meaning_tasks.proofs.Lemmas.{needs_split, picked_counted_are, picked_reached_are, packed_counted_are, packed_reached_are, tool_counted_are, tool_reached_are, one_list, one_list_of_needs}
use Rattle.meaning_records.specs.Batches.{AreReachedLast}
use Rattle.meaning_true.specs.Facts.{role_of, need_of, needs_in}
use Rattle.meaning_true.specs.Closed.{IsSeen}
use Rattle.task_needs.specs.Counting.{nodes_in}
use Rattle.node_tasks.specs.declared.needed.Needed.{Needed}
use Rattle.node_tasks.specs.Needed.{IsNeeded}
use Rattle.node_tasks.proofs.Lemmas.{needs_in as listed_in, needs_listed}
use Rattle.derive_walk.specs.declared.done.Done.{Done}
use Rattle.derive_walk.specs.Tables.{Entries, done_in, results_of, are_done}
use Rattle.derive_walk.specs.Walks.{AreFormedDone}
use Rattle.derive_walk.specs.Noting.{value_of_done, dep_now, all_deps}
use Rattle.derive_walk.proofs.TopLemmas.{each_done}

-- ---- needs in their roles

-- the counted ones, and after them the reached ones
roles_split : (t : Task) (known : Known) (names : List Text) → task_needs t known names ≡ in_role needed (counted_needs t known names) ++ in_role reached (reached_needs t known names)
roles_split (given name) known names = refl
roles_split (picked base key) known names =
    sym ((λ i. in_role needed (picked_counted_are base key known names i) ++ in_role reached (picked_reached_are base key known names i)) ∙ append-nil _)
roles_split (mapped base f) known names = refl
roles_split (packed parts) known names =
    sym ((λ i. in_role needed (packed_counted_are parts known names i) ++ in_role reached (packed_reached_are parts known names i)) ∙ append-nil _)
roles_split (tooled t) known names = sym (λ i. in_role needed (tool_counted_are t known names i) ++ in_role reached (tool_reached_are t known names i))
roles_split unfit known names = refl

module _ (done : Entries) (role : Role) where
  needs_front : (nodes : List Node) (rest : List FactDep) → needs_in (map (dep_now done role) nodes ++ rest) ≡ in_role (role_of role) nodes ++ needs_in rest
  needs_front [] rest = refl
  needs_front (n ∷ nodes) rest = ap (λ l. need_of (dep_now done role n) ∷ l) (needs_front nodes rest)

  needs_alone : (nodes : List Node) → needs_in (map (dep_now done role) nodes) ≡ in_role (role_of role) nodes
  needs_alone [] = refl
  needs_alone (n ∷ nodes) = ap (λ l. need_of (dep_now done role n) ∷ l) (needs_alone nodes)

  nodes_front : (nodes : List Node) (rest : List FactDep) → map (λ (d : FactDep). d.node) (map (dep_now done role) nodes ++ rest) ≡ nodes ++ map (λ (d : FactDep). d.node) rest
  nodes_front [] rest = refl
  nodes_front (n ∷ nodes) rest = ap (λ l. n ∷ l) (nodes_front nodes rest)

  nodes_alone : (nodes : List Node) → map (λ (d : FactDep). d.node) (map (dep_now done role) nodes) ≡ nodes
  nodes_alone [] = refl
  nodes_alone (n ∷ nodes) = ap (λ l. n ∷ l) (nodes_alone nodes)

module _ (g : Graph) (n : Node) (done : Entries) (needed_of : Needed) (found : IsNeeded g n (results_of done) needed_of) where
  abbrev known : Known
  known = values_of (results_of done)

  abbrev counted : List Node
  counted = nodes_in known needed_of.counted

  abbrev sources : List Node
  sources = map source_node needed_of.names

  listed : Needs g n (results_of done) (listed_in (results_of done) needed_of)
  listed = needs_listed g n (results_of done) needed_of found

  -- the reached needs are the sources of its names
  reached_are : reached_needs (task_of g n) known needed_of.names ≡ sources
  reached_are =
      let same : listed.names ≡ needed_of.names = one_list (own_lines (task_of g n) known) (other_lines (task_of g n) known) listed.names needed_of.names listed.reached found.reached in
      append_cancel_left counted (reached_needs (task_of g n) known needed_of.names) sources
      (ap (λ l. l ++ reached_needs (task_of g n) known needed_of.names) found.counted
      ∙ sym (needs_split (task_of g n) known needed_of.names)
      ∙ ap (needs_of (task_of g n) known) (sym same)
      ∙ sym listed.listed)

  pub deps_are_needs : needs_in (all_deps done needed_of) ≡ task_needs (task_of g n) known needed_of.names
  deps_are_needs =
      needs_front done AsNeeded counted (map (dep_now done AsReached) sources)
      ∙ ap (λ l. in_role needed counted ++ l) (needs_alone done AsReached sources)
      ∙ (λ i. in_role needed (found.counted i) ++ in_role reached (sym reached_are i))
      ∙ sym (roles_split (task_of g n) known needed_of.names)

  -- ---- each of them

  of_one : (role : Role) (nodes : List Node) (d : FactDep) → IsIn d (map (dep_now done role) nodes) → IsIn d.node nodes × (d.value ≡ value_of_done (done_in done d.node))
  of_one role nodes d i =
      let m = from_map (dep_now done role) d nodes i in (
        subst (λ k. IsIn k nodes) (sym (ap (λ (x : FactDep). x.node) m.2)) m.1,
        ap (λ (x : FactDep). x.value) m.2 ∙ sym (ap (λ (x : FactDep). value_of_done (done_in done x.node)) m.2),
      )

  of_deps : (d : FactDep) → IsIn d (all_deps done needed_of) → IsIn d.node (listed_in (results_of done) needed_of) × (d.value ≡ value_of_done (done_in done d.node))
  of_deps d i = elim (in_either d (map (dep_now done AsNeeded) counted) (map (dep_now done AsReached) sources) i) [
    | inl k ↦ let r = of_one AsNeeded counted d k in (in_left d.node counted sources r.0, r.1)
    | inr k ↦ let r = of_one AsReached sources d k in (in_right d.node counted sources r.0, r.1)
  ]

  -- each need has a dep
  pub dep_of_need : (needs : List Node) → Needs g n (results_of done) needs → (m : Node) → IsIn m needs → IsIn m (map (λ (d : FactDep). d.node) (all_deps done needed_of))
  dep_of_need needs are m i =
      let nodes : map (λ (d : FactDep). d.node) (all_deps done needed_of) ≡ counted ++ sources =
      nodes_front done AsNeeded counted (map (dep_now done AsReached) sources) ∙ ap (λ l. counted ++ l) (nodes_alone done AsReached sources) in
      subst (λ l. IsIn m l) (one_list_of_needs g n (results_of done) needs (listed_in (results_of done) needed_of) are listed ∙ sym nodes) i

  module _ (formed : AreFormedDone g done) (needs : List Node) (are : Needs g n (results_of done) needs) (all : are_done done needs ≡ true) where
    -- the result of a dep's node
    pub entry_of_dep : (d : FactDep) → IsIn d (all_deps done needed_of) → (entry : Done) × (done_in done d.node ≡ Some entry) × (entry.view.value ≡ d.value)
    entry_of_dep d i =
        let r = of_deps d i in
        let same : needs ≡ listed_in (results_of done) needed_of = one_list_of_needs g n (results_of done) needs (listed_in (results_of done) needed_of) are listed in
        let e = each_done done needs all d.node (subst (λ l. IsIn d.node l) (sym same) r.0) in
        (e.0, e.1, sym (r.1 ∙ ap value_of_done e.1))

    pub dep_is_seen : (d : FactDep) → IsIn d (all_deps done needed_of) → IsSeen g (results_of done) d
    dep_is_seen d i =
        let e = entry_of_dep d i in
        record {
          view = e.0.view;
          is = ap (option_map (λ (x : Done). x.view)) e.1;
          value = e.2;
          result = (formed.each d.node e.0 e.1).result.result;
        }

-- ---- their order

reached_alone : (done : Entries) (nodes : List Node) → All (λ (d : FactDep). d.role ≡ AsReached) (map (dep_now done AsReached) nodes)
reached_alone done nodes =
    all_in (λ (d : FactDep). d.role ≡ AsReached) (map (dep_now done AsReached) nodes)
    (λ d i. ap (λ (x : FactDep). x.role) (from_map (dep_now done AsReached) d nodes i).2)

last_alone : (done : Entries) (nodes : List Node) → AreReachedLast (map (dep_now done AsReached) nodes)
last_alone done [] = tt
last_alone done (n ∷ nodes) = (λ e. reached_alone done nodes, last_alone done nodes)

last_front : (done : Entries) (nodes : List Node) (rest : List FactDep) → AreReachedLast rest → AreReachedLast (map (dep_now done AsNeeded) nodes ++ rest)
last_front done [] rest last = last
last_front done (n ∷ nodes) rest last = (λ e. let no : ⊥ = cc in absurd no, last_front done nodes rest last)

-- the reached sources stand last
pub deps_reached_last : (done : Entries) (needed_of : Needed) → AreReachedLast (all_deps done needed_of)
deps_reached_last done needed_of =
    last_front done (nodes_in (values_of (results_of done)) needed_of.counted) (map (dep_now done AsReached) (map source_node needed_of.names))
    (last_alone done (map source_node needed_of.names))
