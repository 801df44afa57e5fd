use Rattle.std.proofs.Common.{List, ◌∷◌, [], map, ap, ◌∙◌, subst, arith}
use Rattle.std.proofs.lemmas.List.{take_all}
use Rattle.object_values.specs.declared.nodes.Node.{Node}
use Rattle.meaning_tasks.specs.Nodes.{source_node}
use Rattle.derive_walk.specs.Surveys.{TakesInNodes}
use Rattle.derive_walk.proofs.SurveyLemmas.{takes_none, takes_node}
use Rattle.derive_walk.proofs.survey.Survey.add_sources.Goals as goal

pub loop-name-init : goal.loop-name-init
loop-name-init c = takes_none c.args.done.now c.args.waiting.now c.args.self.now

pub loop-name-preserved : goal.loop-name-preserved
loop-name-preserved c = takes_node c.args.done.now c.args.waiting.now c.args.names.now c.loop-name.name-index c.name-item.result c.loop-name-test.true c.name-item.is c.args.self.now c.loop-name.self c.add.new.self source_node c.loop-name.invariant
    (subst (λ (n : Node). TakesInNodes c.args.done.now c.args.waiting.now (n ∷ []) c.loop-name.self c.add.new.self) (c.in_ok-source.ensures ∙ ap source_node c.as_slice.ensures.bytes) c.in_ok-add.ensures)

pub returns : goal.returns
returns c = subst (λ (l : List Node). TakesInNodes c.args.done.now c.args.waiting.now l c.args.self.now c.loop-name.self) (ap (map source_node) (take_all c.loop-name.name-index c.args.names.now (omega arith))) c.loop-name.invariant
