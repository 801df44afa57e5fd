use Rattle.std.proofs.Common.{subst, sym}
use Rattle.std.specs.Prelude.{option_map}
use Rattle.object_values.specs.declared.views.View.{View}
use Rattle.meaning_tasks.specs.Settle.{Settles}
use Rattle.meaning_tasks.proofs.Lemmas.{settles_over_any}
use Rattle.node_tasks.proofs.settling.settle_in.Goals as goal

pub returns : goal.returns
returns g c texts =
    let so = c.in_ok-whole.ensures in
    let given = option_map (λ o. o.now) c.args.outcome in
    subst (λ (view : View). Settles c.args.planned.now texts c.args.node.now (g.R.Results.results c.args.seen.now) given view) (sym c.into_view.ensures)
    (settles_over_any c.args.planned.now c.args.node.now (g.R.Results.results c.args.seen.now) given so.own c.in_ok-whole.whole.view c.in_ok-whole.whole.reached c.requires.stepped so.settles texts)
