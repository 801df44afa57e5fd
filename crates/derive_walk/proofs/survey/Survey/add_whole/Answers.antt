use Rattle.std.proofs.Common.{List, flat_map, ap, subst, arith}
use Rattle.std.proofs.lemmas.List.{take_all}
use Rattle.object_values.specs.declared.nodes.Node.{Node}
use Rattle.meaning_tasks.specs.Needs.{values_of, with_elements}
use Rattle.derive_walk.specs.Surveys.{TakesInNodes}
use Rattle.derive_walk.specs.Tables.{results_of}
use Rattle.derive_walk.proofs.SurveyLemmas.{takes_none, takes_list}
use Rattle.derive_walk.proofs.survey.Survey.add_whole.Goals as goal

pub loop-node-init : goal.loop-node-init
loop-node-init c = takes_none c.args.done.now c.args.waiting.now c.args.self.now

pub loop-node-preserved : goal.loop-node-preserved
loop-node-preserved c = takes_list c.args.done.now c.args.waiting.now c.args.nodes.now c.loop-node.node-index c.node-item.result c.loop-node-test.true c.node-item.is c.args.self.now c.loop-node.self c.add_with_elements.new.self (with_elements (values_of (results_of c.args.done.now))) c.loop-node.invariant c.in_ok-add_with_elements.ensures

pub returns : goal.returns
returns c = subst (λ (l : List Node). TakesInNodes c.args.done.now c.args.waiting.now l c.args.self.now c.loop-node.self) (ap (flat_map (with_elements (values_of (results_of c.args.done.now)))) (take_all c.loop-node.node-index c.args.nodes.now (omega arith))) c.loop-node.invariant
