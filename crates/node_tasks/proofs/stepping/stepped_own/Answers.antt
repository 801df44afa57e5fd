use Rattle.std.proofs.Common.{◌≡◌, ap, subst}
use Rattle.std.specs.Prelude.{IfOk, option_map}
use Rattle.meaning_tasks.specs.Labels.{label_of}
use Rattle.meaning_tasks.specs.Tasks.{Own}
use Rattle.meaning_tasks.specs.Needs.{values_of}
use Rattle.node_tasks.proofs.SettleLemmas.{run_is}
use Rattle.node_tasks.proofs.stepping.stepped_own.Goals as goal

pub returns-in-Some : goal.returns-in-Some
returns-in-Some g c =
    subst (λ (o : Own). IfOk c.run_own.result (λ own. own ≡ o))
    (run_is c.args.planned.now c.args.node.now c.in-Tooled.maker.now c.in-Tooled.tool.now (label_of c.args.planned.now c.args.node.now) (values_of (g.R.Results.results c.args.seen.now)) c.in-Some.outcome.now _ (rw c.graph-graph.ensures at c.in-Tooled.ensures) (ap (option_map (λ o. o.now)) c.in-Some.is))
    (rw c.graph-graph.ensures at c.run_own.ensures)
