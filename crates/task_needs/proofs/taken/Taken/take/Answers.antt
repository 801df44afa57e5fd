use Rattle.std.proofs.Common.{subst, List}
use Rattle.object_values.specs.declared.nodes.Node.{Node}
use Rattle.meaning_tasks.specs.Needs.{values_of, with_elements}
use Rattle.std.proofs.Common.{flat_map}
use Rattle.task_needs.specs.TakingOver.{TakesOver}
use Rattle.task_needs.proofs.OkLemmas.{takes_then}
use Rattle.task_needs.proofs.taken.Taken.take.Goals as goal

pub returns : goal.returns
returns g c =
    takes_then (g.R.Results.results c.args.seen.now) _ _ _ c.args.self.now c.take_whole.new.self c.take_all.new.self c.take_all.result
    (subst (λ (l : List Node). TakesOver (g.R.Results.results c.args.seen.now) (flat_map (with_elements (values_of (g.R.Results.results c.args.seen.now))) l) c.args.self.now c.take_whole.new.self) c.as_slice.ensures c.in_ok-take_whole.ensures)
    c.as_slice-2.ensures c.take_all.ensures
