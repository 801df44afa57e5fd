-- The names to which a tool is led are finitely many: only nodes with results have lines.
use Rattle.std.proofs.Common.{◌≡◌, ℕ, ◌+◌, ◌-◌, ◌<◌, arith, ap, length, true, false, List, [], ◌∷◌, ◌++◌, flat_map, cond, bytes_eq, Some, inl, inr, refl, sym, ◌∙◌, subst}
use Rattle.std.specs.Prelude.{None, option_map}
use Rattle.object_values.specs.declared.nodes.Node.{Node}
use Rattle.object_values.specs.declared.views.View.{View}
use Rattle.object_values.specs.declared.graph.Make.TheVariants.{Read}
use Rattle.object_values.specs.declared.graph.MakerDecl.{MakerDecl}
use Rattle.object_values.specs.declared.graph.ToolDecl.{ToolDecl}
use Rattle.meaning_graph.specs.Graphs.{Text, Graph}
use Rattle.meaning_texts.specs.Lists.{IsIn}
use Rattle.meaning_texts.proofs.Lemmas.{in_left, in_right, in_flat}
use Rattle.meaning_tasks.specs.Nodes.{source_node}
use Rattle.meaning_tasks.specs.Reached.{Reached, by_own, by_line}
use Rattle.meaning_tasks.specs.Tasks.{ToolTask, tooled, tool_task}
use Rattle.meaning_tasks.specs.Needs.{Results, values_of, own_lines, other_lines}
use Rattle.meaning_tasks.specs.Maps.{HasOnly}
use Rattle.meaning_tasks.proofs.Lemmas.{IsValued, from_where}
use Rattle.dynamic_inputs.specs.Closures.{ToldLines, ClosureView, lines_told, IsReached, IsWanted, wanted_name, with_lines}
use Rattle.dynamic_inputs.specs.Laws.{with_own}
use Rattle.dynamic_inputs.proofs.Lemmas.{untold_of, untold_falls, unfound_of, all_found}
use Rattle.node_tasks.specs.Ahead.{IsLedOn}
use Rattle.node_tasks.proofs.NameLemmas.{Tells}

-- the lines of a name are some of those that were told
told_listed : (names : List Text) (told : ToldLines) → ((y : Text) (lines : List Text) → IsIn (y, lines) told → (x : Text) → IsIn x lines → IsIn x names) → (y x : Text) → IsIn x (lines_told told y) → IsIn x names
told_listed names [] all y x h = absurd h
told_listed names (e ∷ told) all y x h = (elim (bytes_eq y e.0) as (λ b. IsIn x (cond b e.1 (lines_told told y)) → IsIn x names) [
  | true ↦ λ k. all e.0 e.1 (inl refl) x k
  | false ↦ λ k. told_listed names told (λ z lines i. all z lines (inr i)) y x k
]) h

-- Where all lines are of these names, so is each wanted name.
module _ (root : Text) (own : List Text) (lines : Text → List Text) (names : List Text) (c : ClosureView) (w : Tells root own lines c)
    (has_root : IsIn root names) (has_own : (x : Text) → IsIn x own → IsIn x names) (has_lines : (y x : Text) → IsIn x (lines y) → IsIn x names) where
  of_told : (y : Text) (told : List Text) → IsIn (y, told) c.told → (x : Text) → IsIn x told → IsIn x names
  of_told y told i x h = (elim (bytes_eq y root) as (λ b. IsIn x (cond b own (lines y)) → IsIn x names) [ true ↦ λ k. has_own x k | false ↦ λ k. has_lines y x k ]) (subst (λ l. IsIn x l) (w.told y told i ∙ ap (λ r. with_own r own lines y) w.rooted) h)

  reached_listed : (x : Text) → IsReached c x → IsIn x names
  reached_listed x (by_own z h) = told_listed names c.told of_told c.root z h
  reached_listed x (by_line y z r h) = told_listed names c.told of_told y z h

  pub wanted_listed : (x : Text) → IsWanted c x → IsIn x names
  wanted_listed x v = elim v.found [ inl e ↦ subst (λ z. IsIn z names) (sym (e ∙ w.rooted)) has_root | inr r ↦ reached_listed x r ]

-- ---- of a tool

valued_seen : (seen : Results) (n : Node) → IsValued (values_of seen n) → (view : View) × (seen n ≡ Some view)
valued_seen seen n h = (elim (seen n) as (λ o. seen n ≡ o → IsValued (option_map (λ v. v.value) o) → (view : View) × (seen n ≡ Some view)) [ None ↦ λ e k. cc | Some view ↦ λ e k. (view, e) ]) refl h

-- the root and the names in all lines that there are
abbrev pub names_of : Text → List Text → (Text → List Text) → List Node → List Text
names_of root own lines nodes = root ∷ (own ++ flat_map (λ (n : Node). lines n.source) nodes)

by_node : (t : ToolTask) (seen : Results) (nodes : List Node) → HasOnly seen nodes → (y z : Text) → IsIn z (other_lines (tooled t) (values_of seen) y) → IsIn z (flat_map (λ (n : Node). other_lines (tooled t) (values_of seen) n.source) nodes)
by_node t seen nodes only y z h =
    let valued : IsValued (values_of seen (source_node y)) = (from_where (values_of seen (source_node y)) z _ (from_where (values_of seen t.base) z _ h).1).0 in
    let there = valued_seen seen (source_node y) valued in
    in_flat (λ (n : Node). other_lines (tooled t) (values_of seen) n.source) (source_node y) z nodes (only (source_node y) there.0 there.1) h

pub tool_wanted : (t : ToolTask) (seen : Results) (nodes : List Node) → HasOnly seen nodes → (c : ClosureView) (x : Text)
    → Tells t.root (own_lines (tooled t) (values_of seen)) (other_lines (tooled t) (values_of seen)) c → IsWanted c x
    → IsIn x (names_of t.root (own_lines (tooled t) (values_of seen)) (other_lines (tooled t) (values_of seen)) nodes)
tool_wanted t seen nodes only c x w v = wanted_listed t.root own lines (names_of t.root own lines nodes) c w (inl refl) (λ y h. inr (in_left y own _ h)) (λ y z h. inr (in_right z own _ (by_node t seen nodes only y z h))) x v
  where
    own : List Text
    own = own_lines (tooled t) (values_of seen)

    lines : Text → List Text
    lines y = other_lines (tooled t) (values_of seen) y

-- ---- of a tool of a node

-- the lines of a tool are the same for any maker
pub any_maker : MakerDecl
any_maker = record { name = []; make = Read; from = []; to = [] }

abbrev pub all_names : Graph → Node → ToolDecl → Results → List Node → List Text
all_names g n tool seen nodes =
    let t : ToolTask = tool_task g n any_maker tool in
    names_of n.source (own_lines (tooled t) (values_of seen)) (other_lines (tooled t) (values_of seen)) nodes

-- Names to which lines lead are among them.
pub reached_listed_all : (g : Graph) (n : Node) (tool : ToolDecl) (seen : Results) (nodes : List Node) → HasOnly seen nodes → (x : Text)
    → Reached (own_lines (tooled (tool_task g n any_maker tool)) (values_of seen)) (other_lines (tooled (tool_task g n any_maker tool)) (values_of seen)) x → IsIn x (all_names g n tool seen nodes)
reached_listed_all g n tool seen nodes only x (by_own z h) = inr (in_left z (own_lines (tooled (tool_task g n any_maker tool)) (values_of seen)) _ h)
reached_listed_all g n tool seen nodes only x (by_line y z r h) = inr (in_right z (own_lines (tooled (tool_task g n any_maker tool)) (values_of seen)) _ (by_node (tool_task g n any_maker tool) seen nodes only y z h))

-- The names that are left: those that weren't found, and those found that weren't looked at.
abbrev pub left_over : List Text → List Text → ℕ → ℕ
left_over all names looked = length (unfound_of all names) + length names - looked

-- a name that is looked at is one less, whatever it is told
pub left_falls : (g : Graph) (n : Node) (tool : ToolDecl) (seen : Results) (nodes : List Node) → HasOnly seen nodes → (before after : List Text) (looked : ℕ)
    → IsLedOn (tooled (tool_task g n any_maker tool)) (values_of seen) before after → looked < length before
    → left_over (all_names g n tool seen nodes) after (looked + 1) < left_over (all_names g n tool seen nodes) before looked
left_falls g n tool seen nodes only before after looked on lt =
    let all : List Text = all_names g n tool seen nodes in
    let less = all_found all before on.lines (λ x h. reached_listed_all g n tool seen nodes only x (on.led x h)) in
    subst (λ l. left_over all l (looked + 1) < left_over all before looked) (sym on.is) (omega (arith, less, lt))

-- a wanted name that is told its lines is one less
pub tool_falls : (g : Graph) (n : Node) (tool : ToolDecl) (seen : Results) (nodes : List Node) → HasOnly seen nodes → (c after : ClosureView) (x : Text) (lines : List Text)
    → Tells n.source (own_lines (tooled (tool_task g n any_maker tool)) (values_of seen)) (other_lines (tooled (tool_task g n any_maker tool)) (values_of seen)) c → Some x ≡ wanted_name c → IsWanted c x → after ≡ with_lines c lines
    → length (untold_of (all_names g n tool seen nodes) after) < length (untold_of (all_names g n tool seen nodes) c)
tool_falls g n tool seen nodes only c after x lines w first wanted told =
    let names : List Text = all_names g n tool seen nodes in
    subst (λ (d : ClosureView). length (untold_of names d) < length (untold_of names c)) (sym told)
    (untold_falls names c x lines (sym first) wanted (tool_wanted (tool_task g n any_maker tool) seen nodes only c x w wanted))
