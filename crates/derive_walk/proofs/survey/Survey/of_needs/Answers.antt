use Rattle.std.proofs.Common.{List, [], ◌++◌, true, flat_map, map, subst}
use Rattle.object_values.specs.declared.nodes.Node.{Node}
use Rattle.meaning_tasks.specs.Nodes.{source_node}
use Rattle.meaning_tasks.specs.Needs.{values_of, with_elements}
use Rattle.derive_walk.specs.declared.survey.Survey.{Survey}
use Rattle.derive_walk.specs.Tables.{results_of}
use Rattle.derive_walk.specs.Surveys.{TakesInNodes}
use Rattle.derive_walk.proofs.SurveyLemmas.{begun, takes_both}
use Rattle.derive_walk.proofs.survey.Survey.of_needs.Goals as goal

pub returns : goal.returns
returns c =
    let done = c.args.done.now in
    let waits = c.args.waiting.now in
    let elements = with_elements (values_of (results_of done)) in
    let counted = c.args.counted.now in
    let empty : Survey = record { top = 0; done = true; unvisited = [] } in
    let whole : TakesInNodes done waits (flat_map elements counted.whole) empty c.add_whole.new.self =
    subst (λ (s : Survey). TakesInNodes done waits (flat_map elements counted.whole) s c.add_whole.new.self) c.new-survey.ensures (subst (λ (l : List Node). TakesInNodes done waits (flat_map elements l) c.new-survey.result c.add_whole.new.self) c.as_slice.ensures c.in_ok-add_whole.ensures) in
    let alone : TakesInNodes done waits counted.alone c.add_whole.new.self c.add_all.new.self =
    subst (λ (l : List Node). TakesInNodes done waits l c.add_whole.new.self c.add_all.new.self) c.as_slice-2.ensures c.in_ok-add_all.ensures in
    begun done waits ((flat_map elements counted.whole ++ counted.alone) ++ map source_node c.args.names.now) c.add_sources.new.self
    (takes_both done waits (flat_map elements counted.whole ++ counted.alone) (map source_node c.args.names.now) empty c.add_all.new.self c.add_sources.new.self
    (takes_both done waits (flat_map elements counted.whole) counted.alone empty c.add_whole.new.self c.add_all.new.self whole alone) c.in_ok-add_sources.ensures)
