-- When a tool is run, and what is known where it isn't.
use Rattle.std.proofs.Common.{◌≡◌, ◌<◌, ◌+◌, ℕ, zero, suc, inl, inr, Bool, true, false, cond, ◌&&◌, List, [], ◌∷◌, ◌++◌, map, sym, ap, ◌∙◌, subst, refl, slice_get, length}
use Rattle.std.specs.Prelude.{Option, Some, None}
use Rattle.std.specs.List.{list_all}
use Rattle.object_values.specs.declared.messages.Message.{Message}
use Rattle.object_values.specs.declared.nodes.Node.{Node}
use Rattle.object_values.specs.declared.nodes.Step.{Step}
use Rattle.object_values.specs.declared.nodes.Step.TheVariants.{Maker, Pick}
use Rattle.object_values.specs.declared.calls.Call.{Call}
use Rattle.object_values.specs.declared.calls.CallPart.{CallPart}
use Rattle.object_values.specs.declared.graph.Make.{Make}
use Rattle.object_values.specs.declared.graph.Make.TheVariants.{Tool, Read, Each, Pack}
use Rattle.object_values.specs.declared.graph.ToolDecl.{ToolDecl}
use Rattle.object_values.specs.declared.graph.MakerDecl.{MakerDecl}
use Rattle.object_values.specs.declared.graph.Decl.{Decl}
use Rattle.object_values.specs.declared.graph.Decl.TheVariants.{ObjectType, Suffix, Param, Maker as MakerDeclared}
use Rattle.meaning_texts.specs.Lists.{IsIn, is_empty}
use Rattle.meaning_texts.specs.Limits.{extra_bound}
use Rattle.meaning_texts.proofs.Lemmas.{in_all, from_chosen, same_some}
use Rattle.meaning_graph.specs.Graphs.{Text, Graph, makers, as_maker}
use Rattle.meaning_graph.specs.Grammar.{IsSpellable, IsSpellableDecl, IsSpellableMake, IsSpellableMaker}
use Rattle.meaning_tasks.specs.Nodes.{last_step}
use Rattle.meaning_tasks.specs.Tasks.{Led, Task, given, picked, mapped, packed, tooled, unfit, ToolTask, led_missing, make_task, maker_task, step_task, tool_task, task_of}
use Rattle.meaning_tasks.specs.Needs.{Results, Known, values_of, counted_needs, ReachedNames}
use Rattle.meaning_tasks.specs.Calls.{node_parts, extra_parts, reached_part, all_valued, call_of, tool_call, CallOf}
use Rattle.node_tasks.specs.Tasks.{RunsNoTool}
use Rattle.node_tasks.specs.Calling.{task_call_with}

-- ---- no extra lacks a path

first_missing : (missing more : List Message) (rest : Bool) → rest ≡ is_empty more → (is_empty missing && rest) ≡ is_empty (missing ++ more)
first_missing [] more rest e = e
first_missing (m ∷ missing) more rest e = refl

pub all_there : (extras : List Led) → list_all (λ (e : Led). is_empty e.missing) extras ≡ is_empty (led_missing extras)
all_there [] = refl
all_there (e ∷ extras) = first_missing e.missing (led_missing extras) (list_all (λ (e : Led). is_empty e.missing) extras) (all_there extras)

-- ---- no call

no_call : (g : Graph) (t : Task) (known : Known) (names : List Text) → RunsNoTool t → call_of g t known names ≡ None
no_call g (given name) known names h = refl
no_call g (picked base key) known names h = refl
no_call g (mapped base f) known names h = refl
no_call g (packed parts) known names h = refl
no_call g (tooled t) known names h = absurd h
no_call g unfit known names h = refl

module _ (g : Graph) (n : Node) (seen : Results) (names : List Text) (reached : ReachedNames g n seen names) where
  pub without_tool : (call : Option Call) → call ≡ None → RunsNoTool (task_of g n) → CallOf g n seen call
  without_tool call e h = record { names = names; reached = reached; is = e ∙ sym (no_call g (task_of g n) (values_of seen) names h) }

  module _ (t : ToolTask) (runs : task_of g n ≡ tooled t) where
    abbrev call_where : Bool → Option Call
    call_where run = cond run (Some (tool_call g t (values_of seen) names)) None

    call_is_where : call_of g (task_of g n) (values_of seen) names ≡ call_where (is_empty (led_missing t.extras) && all_valued (values_of seen) (counted_needs (task_of g n) (values_of seen) names))
    call_is_where =
        ap (λ s. call_of g s (values_of seen) names) runs
        ∙ ap (λ s. call_where (is_empty (led_missing t.extras) && all_valued (values_of seen) (counted_needs s (values_of seen) names))) (sym runs)

    -- by whether the tool is run
    module _ (run : Bool) (extras : List Led) (nodes : List Node) (led : extras ≡ t.extras) (counted : nodes ≡ counted_needs (task_of g n) (values_of seen) names)
        (is : run ≡ (is_empty (led_missing extras) && all_valued (values_of seen) nodes)) where
      runs_so : run ≡ (is_empty (led_missing t.extras) && all_valued (values_of seen) (counted_needs (task_of g n) (values_of seen) names))
      runs_so = is ∙ (λ i. is_empty (led_missing (led i)) && all_valued (values_of seen) (counted i))

      pub not_run : run ≡ false → CallOf g n seen None
      not_run h = record { names = names; reached = reached; is = sym (call_is_where ∙ ap call_where (sym runs_so ∙ h)) }

      pub is_called : run ≡ true → (call : Call) → call ≡ tool_call g t (values_of seen) names → CallOf g n seen (Some call)
      is_called h call e = record { names = names; reached = reached; is = ap Some e ∙ sym (call_is_where ∙ ap call_where (sym runs_so ∙ h)) }

-- the call with the inputs of a tool
pub call_is : (g : Graph) (t : ToolTask) (known : Known) (names : List Text) (base : Node) (extras : List Led) (parts : List CallPart) (call : Call) → base ≡ t.base → extras ≡ t.extras
    → parts ≡ node_parts g known 0 base ++ (extra_parts g known 1 extras ++ map (reached_part known (length extras + 1)) names) → call ≡ task_call_with t parts → call ≡ tool_call g t known names
call_is g t known names base extras parts call b e p c =
    c ∙ ap (task_call_with t) (p ∙ (λ i. node_parts g known 0 (b i) ++ (extra_parts g known 1 (e i) ++ map (reached_part known (length (e i) + 1)) names)))

-- ---- a tool of a spellable graph has few extras

in_got : {A : Type 0} (xs : List A) (i : ℕ) (x : A) → slice_get xs i ≡ Some x → IsIn x xs
in_got [] i x e = cc
in_got (y ∷ xs) zero x e = inl (sym (same_some e))
in_got (y ∷ xs) (suc i) x e = inr (in_got xs i x e)

maker_spelled : (d : Decl) (m : MakerDecl) → IsSpellableDecl d → as_maker d ≡ Some m → IsSpellableMaker m
maker_spelled (ObjectType t) m h e = cc
maker_spelled (Suffix s) m h e = cc
maker_spelled (Param p) m h e = cc
maker_spelled (MakerDeclared k) m h e = let same : k ≡ m = cc in subst IsSpellableMaker same h

make_few : (g : Graph) (n : Node) (m : MakerDecl) (make : Make) (t : ToolTask) → IsSpellableMake make → make_task g n m make ≡ tooled t → length t.tool.extras < extra_bound
make_few g n m (Tool tool) t h e =
    let same : tool ≡ t.tool = by_tool (tool_task g n m tool) t e in
    subst (λ (tool : ToolDecl). length tool.extras < extra_bound) same h.few
  where
    by_tool : (a b : ToolTask) → tooled a ≡ tooled b → a.tool ≡ b.tool
    by_tool a b e = cc
make_few g n m Read t h e = cc
make_few g n m Each t h e = cc
make_few g n m Pack t h e = cc

pub few_extras : (g : Graph) (n : Node) (t : ToolTask) → IsSpellable g → task_of g n ≡ tooled t → length t.tool.extras < extra_bound
unfolding task_of
few_extras g n t spelled e = by_last (last_step n.steps) e
  where
    by_maker : (o : Option MakerDecl) (k : ℕ) → slice_get (makers g) k ≡ o → maker_task g n o ≡ tooled t → length t.tool.extras < extra_bound
    by_maker None k found h = cc
    by_maker (Some m) k found h =
        let r = from_chosen as_maker m g (in_got (makers g) k m found) in
        make_few g n m m.make t (maker_spelled r.0 m (in_all IsSpellableDecl g spelled r.0 r.1) r.2).make h

    by_last : (o : Option Step) → step_task g n o ≡ tooled t → length t.tool.extras < extra_bound
    by_last None h = cc
    by_last (Some (Pick key)) h = cc
    by_last (Some (Maker k)) h = by_maker (slice_get (makers g) k) k refl h

pub few_led : (g : Graph) (n : Node) (t : ToolTask) (slice : List Led) → IsSpellable g → task_of g n ≡ tooled t → length slice ≡ length t.tool.extras → length slice < extra_bound
few_led g n t slice spelled e count = subst (λ (k : ℕ). k < extra_bound) (sym count) (few_extras g n t spelled e)
