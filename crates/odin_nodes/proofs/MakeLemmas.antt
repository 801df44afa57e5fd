-- What comes of an expression, step by step.
use Rattle.std.proofs.Common.{◌≡◌, ℕ, ◌+◌, ◌<◌, ◌≤◌, cond, List, [], ◌∷◌, ◌++◌, length, get_or, drop, map, is_some, refl, sym, ap, ◌∙◌, subst}
use Rattle.std.specs.Prelude.{Option, Some, None, option_map, option_and_then, Result, Ok, Err, IfOk, IfErr, OnOk}
use Rattle.std.specs.Result.{IsErrAnd, result_err}
use Rattle.std.proofs.lemmas.Result.{err_from_is_err_and}
use Rattle.std.proofs.lemmas.List.{at_drop_more, at_drop_all}
use Rattle.object_values.specs.declared.nodes.ParamValue.{ParamValue}
use Rattle.object_values.specs.declared.nodes.Step.{Step}
use Rattle.object_values.specs.declared.nodes.Step.TheVariants.{Maker, Pick as PickKey}
use Rattle.object_values.specs.declared.nodes.Node.{Node}
use Rattle.object_values.specs.declared.expressions.ExprStep.{ExprStep}
use Rattle.object_values.specs.declared.expressions.ExprStep.TheVariants.{To, Pick}
use Rattle.object_values.specs.declared.expressions.Expression.{Expression}
use Rattle.meaning_graph.specs.Graphs.{Text, Graph, type_named, kind_of}
use Rattle.meaning_graph.specs.Suffixes.{source_type}
use Rattle.meaning_graph.specs.Paths.{Path, chosen_path}
use Rattle.meaning_tasks.specs.Nodes.{node_with_step, extended, picked_type, type_after, reached_type, onward}
use Rattle.meaning_tasks.specs.NodeOf.{NodeAnswer, is_node, unknown_param, unknown_type, no_path, node_or_no_path, toward, step_on, steps_on, unknown_in, of_known, node_of}
use Rattle.meaning_tasks.proofs.Lemmas.{type_after-append, type_after_none, path_type}
use Rattle.odin_nodes.specs.declared.fault.NodeFault.{NodeFault}
use Rattle.odin_nodes.specs.declared.fault.NodeFault.TheVariants.{UnknownParam, UnknownType, NoPath, Memory}
use Rattle.odin_nodes.specs.Refusals.{IsFaultOfAnswer}
use Rattle.odin_nodes.specs.Making.{bare_source, IsMade}

-- ---- one step

-- the type after more steps
module _ (g : Graph) (n : Node) (at : ℕ) (typed : reached_type g n ≡ Some at) where
  pub typed_on : (steps : List Step) → reached_type g (record n { steps = n.steps ++ steps }) ≡ type_after g (Some at) steps
  unfolding reached_type
  typed_on steps = type_after-append g (Some (source_type g n.source)) n.steps steps ∙ ap (λ o. type_after g o steps) typed

  typed_pick : (key : Text) (o : Option ℕ) → o ≡ picked_type g key (kind_of g at) → reached_type g (node_with_step n (PickKey key)) ≡ o
  typed_pick key o is = typed_on (PickKey key ∷ []) ∙ type_after_none g (picked_type g key (kind_of g at)) ∙ sym is

  pub pick_typed : (key : Text) (t : ℕ) → Some t ≡ picked_type g key (kind_of g at) → reached_type g (node_with_step n (PickKey key)) ≡ Some t
  pick_typed key t is = typed_pick key (Some t) is

  -- a key that picks, and one that doesn't
  pub picks : (k : ℕ) (key : Text) (t : ℕ) → Some t ≡ picked_type g key (kind_of g at) → step_on g n k (Pick key) ≡ is_node (node_with_step n (PickKey key))
  picks k key t is = ap (λ o. cond (is_some o) (is_node (node_with_step n (PickKey key))) (no_path k)) (typed_pick key (Some t) is)

  pub picks_none : (k : ℕ) (key : Text) → None ≡ picked_type g key (kind_of g at) → step_on g n k (Pick key) ≡ no_path k
  picks_none k key is = ap (λ o. cond (is_some o) (is_node (node_with_step n (PickKey key))) (no_path k)) (typed_pick key None is)

  onward_by : (to : ℕ) (o : Option (List ℕ)) → o ≡ chosen_path g at to → onward g n to ≡ option_map (extended n) o
  onward_by to o is = ap (option_and_then (λ t. option_map (extended n) (chosen_path g t to))) typed ∙ ap (option_map (extended n)) (sym is)

  -- a path that leads on, and where there is none
  pub leads : (k to : ℕ) (path : List ℕ) → Some path ≡ chosen_path g at to → node_or_no_path k (onward g n to) ≡ is_node (extended n path)
  leads k to path is = ap (node_or_no_path k) (onward_by to (Some path) is)

  pub leads_nowhere : (k to : ℕ) → None ≡ chosen_path g at to → node_or_no_path k (onward g n to) ≡ no_path k
  leads_nowhere k to is = ap (node_or_no_path k) (onward_by to None is)

  with_steps : (answer : NodeAnswer) (steps made : List Step) (t : ℕ) → steps ≡ made → answer ≡ is_node (record n { steps = made }) → reached_type g (record n { steps = made }) ≡ Some t → IsMade g answer (record { node = record n { steps = steps }; at = t })
  with_steps answer steps made t same is typed_there = record {
    node = is ∙ ap (λ (l : List Step). is_node (record n { steps = l })) (sym same);
    typed = ap (λ (l : List Step). reached_type g (record n { steps = l })) same ∙ typed_there;
  }

  -- the node after a pick, and after a path, with its type
  pub made_by_pick : (k : ℕ) (key : Text) (steps : List Step) (t : ℕ) → steps ≡ n.steps ++ PickKey key ∷ [] → Some t ≡ picked_type g key (kind_of g at) → IsMade g (step_on g n k (Pick key)) (record { node = record n { steps = steps }; at = t })
  made_by_pick k key steps t same is = with_steps (step_on g n k (Pick key)) steps (n.steps ++ PickKey key ∷ []) t same (picks k key t is) (pick_typed key t is)

  pub made_by_path : (k to : ℕ) (path : List ℕ) (steps : List Step) (t : ℕ) → steps ≡ n.steps ++ map Maker path → Some path ≡ chosen_path g at to → Some t ≡ type_after g (Some at) (map Maker path) → IsMade g (node_or_no_path k (onward g n to)) (record { node = record n { steps = steps }; at = t })
  made_by_path k to path steps t same is e = with_steps (node_or_no_path k (onward g n to)) steps (n.steps ++ map Maker path) t same (leads k to path is) (typed_on (map Maker path) ∙ sym e)

-- along a path there is a type
pub path_typed : (g : Graph) (at to : ℕ) (path : List ℕ) → Path g at to path → None ≡ type_after g (Some at) (map Maker path) → ⊥
path_typed g at to path w e = let t = path_type g path at to w in let both : None ≡ Some t.0 = e ∙ t.1 in cc

pub named_type : (g : Graph) (n : Node) (k : ℕ) (name : Text) (to : ℕ) → Some to ≡ type_named g name → step_on g n k (To name) ≡ node_or_no_path k (onward g n to)
named_type g n k name to is = ap (toward g n k name) (sym is)

pub no_named_type : (g : Graph) (n : Node) (k : ℕ) (name : Text) → None ≡ type_named g name → step_on g n k (To name) ≡ unknown_type name
no_named_type g n k name is = ap (toward g n k name) (sym is)

-- ---- all steps

param_stays : (g : Graph) (k : ℕ) (name : Text) (steps : List ExprStep) → steps_on g k (unknown_param name) steps ≡ unknown_param name
param_stays g k name [] = refl
param_stays g k name (s ∷ steps) = refl

type_stays : (g : Graph) (k : ℕ) (name : Text) (steps : List ExprStep) → steps_on g k (unknown_type name) steps ≡ unknown_type name
type_stays g k name [] = refl
type_stays g k name (s ∷ steps) = refl

path_stays : (g : Graph) (k j : ℕ) (steps : List ExprStep) → steps_on g k (no_path j) steps ≡ no_path j
path_stays g k j [] = refl
path_stays g k j (s ∷ steps) = refl

-- a refusal stays
refusal_stays : (g : Graph) (k : ℕ) (steps : List ExprStep) (answer : NodeAnswer) (fault : NodeFault) → IsFaultOfAnswer answer fault → IsFaultOfAnswer (steps_on g k answer steps) fault
refusal_stays g k steps answer (UnknownParam name) e = ap (λ a. steps_on g k a steps) e ∙ param_stays g k name steps
refusal_stays g k steps answer (UnknownType name) e = ap (λ a. steps_on g k a steps) e ∙ type_stays g k name steps
refusal_stays g k steps answer (NoPath j) e = ap (λ a. steps_on g k a steps) e ∙ path_stays g k j steps
refusal_stays g k steps answer Memory e = tt

-- So many steps are made, and the others go on from the node.
pub record AreMade (g : Graph) (start : Node) (steps : List ExprStep) (i : ℕ) (n : Node) (at : ℕ) : Type 0 where
  pub typed : reached_type g n ≡ Some at
  pub left : steps_on g 1 (is_node start) steps ≡ steps_on g (i + 1) (is_node n) (drop i steps)

module _ (g : Graph) (start : Node) (steps : List ExprStep) where
  pub none_made : (at : ℕ) → reached_type g start ≡ Some at → AreMade g start steps 0 start at
  none_made at typed = record { typed = typed; left = refl }

  step_left : (i : ℕ) (n : Node) (at : ℕ) (s : ExprStep) → AreMade g start steps i n at → i < length steps → s ≡ get_or steps i s → steps_on g 1 (is_node start) steps ≡ steps_on g (i + 1 + 1) (step_on g n (i + 1) s) (drop (i + 1) steps)
  step_left i n at s w below is =
      w.left ∙ at_drop_more (steps_on g (i + 1) (is_node n)) steps i s below
      ∙ ap (λ x. steps_on g (i + 1 + 1) (step_on g n (i + 1) x) (drop (i + 1) steps)) (sym is)

  pub step_made : (i : ℕ) (n : Node) (at : ℕ) (s : ExprStep) (m : Node) (next : ℕ) → AreMade g start steps i n at → i < length steps → s ≡ get_or steps i s → step_on g n (i + 1) s ≡ is_node m → reached_type g m ≡ Some next → AreMade g start steps (i + 1) m next
  step_made i n at s m next w below is e typed = record { typed = typed; left = step_left i n at s w below is ∙ ap (λ a. steps_on g (i + 1 + 1) a (drop (i + 1) steps)) e }

  pub step_refused : (i : ℕ) (n : Node) (at : ℕ) (s : ExprStep) (fault : NodeFault) → AreMade g start steps i n at → i < length steps → s ≡ get_or steps i s → IsFaultOfAnswer (step_on g n (i + 1) s) fault → IsFaultOfAnswer (steps_on g 1 (is_node start) steps) fault
  step_refused i n at s fault w below is e =
      subst (λ a. IsFaultOfAnswer a fault) (sym (step_left i n at s w below is)) (refusal_stays g (i + 1 + 1) (drop (i + 1) steps) (step_on g n (i + 1) s) fault e)

  pub all_made : (i : ℕ) (n : Node) (at : ℕ) → AreMade g start steps i n at → length steps ≤ i → steps_on g 1 (is_node start) steps ≡ is_node n
  all_made i n at w past = w.left ∙ at_drop_all (steps_on g (i + 1) (is_node n)) steps i past

-- ---- the expression

pub param_unknown : (g : Graph) (e : Expression) (p : ParamValue) → Some p ≡ unknown_in g e.params → node_of g e ≡ unknown_param p.param
unfolding node_of
param_unknown g e p is = ap (of_known g e) (sym is)

pub params_known : (g : Graph) (e : Expression) → None ≡ unknown_in g e.params → node_of g e ≡ steps_on g 1 (is_node (bare_source e.source e.params)) e.steps
unfolding node_of
params_known g e is = ap (of_known g e) (sym is)

pub start_typed : (g : Graph) (source : Text) (params : List ParamValue) (steps : List Step) (t : ℕ) → steps ≡ [] → t ≡ source_type g source → reached_type g (record { source = source; params = params; steps = steps }) ≡ Some t
unfolding reached_type
start_typed g source params steps t none is = ap (type_after g (Some (source_type g source))) none ∙ ap Some (sym is)

-- ---- what is handed on

-- the same fault of a call that would give something else
pub refused_by : {T : Type 0} (r : Result T NodeFault) (fault : NodeFault) (answer : NodeAnswer) → IsErrAnd r (λ e. e ≡ fault) → IsFaultOfAnswer answer fault → IfErr r (IsFaultOfAnswer answer)
refused_by r fault answer is h =
    let same = err_from_is_err_and r is in
    subst (λ x. IfErr x (IsFaultOfAnswer answer)) (sym same.1) (subst (IsFaultOfAnswer answer) (sym same.2) h)

-- what is said of a value where the work on it is done, and of the fault of that work
pub when_ok : {T U : Type 0} (r : Result T NodeFault) (done : Result U NodeFault) (P : Type 0) (v : T) (Q : T → Type 0) → IfOk r (λ x. x ≡ v) → result_err r ≡ result_err done → OnOk done P → (P → Q v) → IfOk r Q
when_ok (Ok x) (Ok u) P v Q is same p f = subst Q (sym is) (f p)
when_ok (Ok x) (Err e) P v Q is same p f = cc
when_ok (Err e) done P v Q is same p f = tt

pub when_err : {T U : Type 0} (r : Result T NodeFault) (done : Result U NodeFault) (Q : NodeFault → Type 0) → result_err r ≡ result_err done → IfErr done Q → IfErr r Q
when_err (Ok x) done Q same q = tt
when_err (Err e) (Ok u) Q same q = cc
when_err (Err e) (Err d) Q same q = let is : e ≡ d = cc in subst Q (sym is) q
