-- The names that a tool reaches, as the lines of one name after another are told.
use Rattle.std.proofs.Common.{◌≡◌, true, List, [], Some, refl, sym, ap, ◌∙◌, subst}
use Rattle.std.specs.Prelude.{Option, None, Result, Ok, Err, IfOk}
use Rattle.object_values.specs.declared.views.Value.{Value}
use Rattle.meaning_graph.specs.Graphs.{Text}
use Rattle.meaning_texts.specs.Lists.{IsIn}
use Rattle.meaning_tasks.specs.Nodes.{source_node}
use Rattle.meaning_tasks.specs.Reached.{AreReached}
use Rattle.meaning_tasks.specs.Tasks.{ToolTask, tooled}
use Rattle.meaning_tasks.specs.Needs.{Known, has_value, where_valued, lines_by, own_lines, other_lines}
use Rattle.node_tasks.proofs.NeedLemmas.{where_some}
use Rattle.dynamic_inputs.specs.Closures.{ClosureView, lines_of, AllTold, wanted_name, with_lines}
use Rattle.dynamic_inputs.specs.Laws.{with_own, IsToldBy}
use Rattle.dynamic_inputs.proofs.Lemmas.{all_told_is_reached, told_first, told_next, root_stays}

less_where : (o : Option (Option Value)) (x : Text) (xs : List Text) → IsIn x (where_valued o xs) → IsIn x xs
less_where None x xs h = absurd h
less_where (Some None) x xs h = absurd h
less_where (Some (Some v)) x xs h = h

-- what is more of what a call gives
pub ok_on : {T E : Type 0} (r : Result T E) (P Q : T → Type 0) → IfOk r P → ((x : T) → P x → Q x) → IfOk r Q
ok_on (Ok x) P Q p f = f x p
ok_on (Err e) P Q p f = tt

-- ---- the telling

-- The closure begins at the root, and tells by these lines.
pub record Tells (root : Text) (own : List Text) (lines : Text → List Text) (c : ClosureView) : Type 0 where
  pub rooted : c.root ≡ root
  pub told : IsToldBy own lines c

module _ (root : Text) (own : List Text) (lines : Text → List Text) where
  pub first_tells : (c : ClosureView) → c ≡ record { root = root; told = [] } → Tells root own lines c
  first_tells c e = subst (Tells root own lines) (sym e) (record { rooted = refl; told = told_first own lines root })

  pub next_tells : (c after : ClosureView) (x : Text) (more : List Text) → Tells root own lines c → Some x ≡ wanted_name c → more ≡ with_own root own lines x → after ≡ with_lines c more → Tells root own lines after
  next_tells c after x more w is same e =
      let so : after ≡ with_lines c (with_own c.root own lines x) = e ∙ ap (with_lines c) (same ∙ ap (λ r. with_own r own lines x) (sym w.rooted)) in
      subst (Tells root own lines) (sym so) (record {
        rooted = root_stays c (with_own c.root own lines x) ∙ w.rooted;
        told = told_next own lines c x w.told (sym is);
      })

-- ---- of a tool

module _ (t : ToolTask) (known : Known) (valued : has_value (known t.base) ≡ true) where
  own_are : own_lines (tooled t) known ≡ lines_by known (t.scan t.root)
  own_are = where_some (known t.base) (lines_by known (t.scan t.root)) valued

  root_lines : (x : Text) → IsIn x (other_lines (tooled t) known t.root) → IsIn x (own_lines (tooled t) known)
  root_lines x h = subst (λ l. IsIn x l) (sym own_are) (less_where (known (source_node t.root)) x _ (less_where (known t.base) x _ h))

  -- once all are told
  pub tool_names : (c : ClosureView) (names : List Text) → Tells t.root (own_lines (tooled t) known) (other_lines (tooled t) known) c → AllTold c → AreReached (lines_of c c.root) (lines_of c) names
      → AreReached (own_lines (tooled t) known) (other_lines (tooled t) known) names
  tool_names c names w all a =
      all_told_is_reached c (own_lines (tooled t) known) (other_lines (tooled t) known) names w.told all
      (subst (λ r. (x : Text) → IsIn x (other_lines (tooled t) known r) → IsIn x (own_lines (tooled t) known)) (sym w.rooted) root_lines) a
