use Rattle.std.proofs.Common.{◌∙◌, ap}
use Rattle.meaning_tasks.specs.Tasks.{task_of}
use Rattle.meaning_tasks.specs.Needs.{values_of, counted_needs}
use Rattle.node_tasks.proofs.needed.Needed.find.Goals as goal

pub returns : goal.returns
returns g c = record {
  reached = c.in_ok-names.ensures;
  counted = c.in_ok-counted.ensures ∙ ap (counted_needs (task_of c.args.planned.now c.args.node.now) (values_of (g.R.Results.results c.args.seen.now))) c.as_slice.ensures;
}
