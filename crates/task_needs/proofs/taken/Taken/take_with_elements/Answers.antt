use Rattle.task_needs.proofs.TakenLemmas.{takes_one}
use Rattle.task_needs.proofs.OkLemmas.{takes_then}
use Rattle.task_needs.proofs.taken.Taken.take_with_elements.Goals as goal

pub returns : goal.returns
returns g c =
    takes_then (g.R.Results.results c.args.seen.now) _ _ _ c.args.self.now c.take_view.new.self c.take_all.new.self c.take_all.result
    (takes_one (g.R.Results.results c.args.seen.now) c.args.node.now _ c.args.self.now c.take_view.new.self c.find.ensures c.in_ok-take_view.ensures.valued c.in_ok-take_view.ensures.status c.in_ok-take_view.ensures.messages)
    c.elements_of.ensures c.take_all.ensures
