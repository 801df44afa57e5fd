use Rattle.std.proofs.Common.{◌∙◌, ap, true, []}
use Rattle.object_values.specs.declared.messages.Status.{Status}
use Rattle.meaning_tasks.specs.Needs.{values_of}
use Rattle.task_needs.specs.Counting.{nodes_in}
use Rattle.task_needs.specs.declared.taken.Taken.{Taken}
use Rattle.node_tasks.proofs.SettleLemmas.{over_if_ok}
use Rattle.node_tasks.proofs.settling.over_needs.Goals as goal

abbrev none_taken : Status → Taken
none_taken status = record { valued = true; status = status; messages = [] }

pub returns-clause-view : goal.returns-clause-view
returns-clause-view g c =
    over_if_ok (g.R.Results.results c.args.seen.now) c.args.own (nodes_in (values_of (g.R.Results.results c.args.seen.now)) c.args.counted.now) c.new-taken.result c.take.new.self
    (c.new-taken.ensures ∙ ap none_taken c.status.ensures) c.in_ok-take.ensures c.over_taken.result c.over_taken.ensures.value c.over_taken.ensures.worst c.over_taken.ensures.told
