-- What comes of the steps after known parameters.
use Rattle.std.proofs.Common.{◌≡◌, ◌∙◌, ap, sym, subst}
use Rattle.std.specs.Prelude.{IfOk, IfErr}
use Rattle.std.proofs.lemmas.Result.{IfOk-weaker}
use Rattle.object_values.specs.declared.nodes.Node.{Node}
use Rattle.meaning_graph.specs.Graphs.{Graph}
use Rattle.meaning_tasks.specs.NodeOf.{NodeAnswer, is_node, unknown_param, node_of, steps_on, unknown_in}
use Rattle.meaning_tasks.proofs.Lemmas.{made_fits}
use Rattle.odin_nodes.specs.Refusals.{IsFaultOfAnswer, IsNodeRefusal}
use Rattle.odin_nodes.proofs.MakeLemmas.{param_unknown, params_known, when_ok, when_err}
use Rattle.odin_nodes.proofs.making.node_from.Goals as goal

pub returns-in-Some-clause-err : goal.returns-in-Some-clause-err
returns-in-Some-clause-err c =
    param_unknown c.args.planned.now c.args.expression c.in-Some.unknown.now (c.in-Some.ensures ∙ ap (λ (g : Graph). unknown_in g c.as_slice.result.now) c.graph-graph.ensures ∙ ap (unknown_in c.args.planned.now) c.as_slice.ensures)
    ∙ ap unknown_param (sym c.in_ok-copy.ensures)

by_steps : (c : goal.After-drop-steps) → node_of c.args.planned.now c.args.expression ≡ steps_on c.args.planned.now 1 (is_node c.start-reached.result.node) c.as_slice-2.result.now
by_steps c =
    params_known c.args.planned.now c.args.expression (c.in_default.ensures ∙ ap (λ (g : Graph). unknown_in g c.as_slice.result.now) c.graph-graph.ensures ∙ ap (unknown_in c.args.planned.now) c.as_slice.ensures)
    ∙ ap (λ (n : Node). steps_on c.args.planned.now 1 (is_node n) c.args.expression.steps) (sym c.start-reached.ensures.node)
    ∙ ap (steps_on c.args.planned.now 1 (is_node c.start-reached.result.node)) (sym c.as_slice-2.ensures)

made : (c : goal.After-drop-steps) → IfOk c.when_done.result (λ node. node_of c.args.planned.now c.args.expression ≡ is_node node)
made c =
    when_ok c.when_done.result c.add_steps-done.result (steps_on c.args.planned.now 1 (is_node c.start-reached.result.node) c.as_slice-2.result.now ≡ is_node c.add_steps-done.new.self.node) c.into_node.result
    (λ node. node_of c.args.planned.now c.args.expression ≡ is_node node) c.when_done.ensures.value c.when_done.ensures.err c.add_steps-done.ensures.ok
    (λ p. by_steps c ∙ p ∙ ap is_node (sym c.into_node.ensures))

pub returns-clause-ok : goal.returns-clause-ok
returns-clause-ok c = made c

pub returns-clause-fits : goal.returns-clause-fits
returns-clause-fits c = IfOk-weaker c.when_done.result _ _ (λ node is canonical. made_fits c.args.planned.now c.args.expression node canonical is) (made c)

pub returns-clause-err : goal.returns-clause-err
returns-clause-err c =
    when_err c.when_done.result c.add_steps-done.result (IsNodeRefusal c.args.planned.now c.args.expression) c.when_done.ensures.err
    (subst (λ (answer : NodeAnswer). IfErr c.add_steps-done.result (IsFaultOfAnswer answer)) (sym (by_steps c)) c.add_steps-done.ensures.err)
