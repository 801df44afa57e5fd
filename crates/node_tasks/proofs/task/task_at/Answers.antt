use Rattle.std.proofs.Common.{◌∙◌, sym, ap}
use Rattle.std.specs.Prelude.{Some}
use Rattle.node_tasks.proofs.TaskLemmas.{given_task, picked_task, made_task, maker_there}
use Rattle.node_tasks.proofs.task.task_at.Goals as goal

pub unreachable-requires : goal.unreachable-requires
unreachable-requires c = maker_there c.args.graph.now c.args.node.now c.in-Some-Maker.number c.requires (sym c.in-Some-Maker.ensures ∙ ap Some c.in-Some-Maker.field-0-is) (sym c.in_default.ensures)

pub returns-in-None : goal.returns-in-None
returns-in-None c = given_task c.args.graph.now c.args.node.now (sym c.in-None.ensures)

pub returns-in-Some-Pick : goal.returns-in-Some-Pick
returns-in-Some-Pick c = picked_task c.args.graph.now c.args.node.now c.in-Some-Pick.key (sym c.in-Some-Pick.ensures ∙ ap Some c.in-Some-Pick.field-0-is)

pub returns-in-Some : goal.returns-in-Some
returns-in-Some c =
    made_task c.args.graph.now c.args.node.now c.in-Some-Maker.number c.in-Some.maker.now (sym c.in-Some-Maker.ensures ∙ ap Some c.in-Some-Maker.field-0-is) (sym c.in-Some.ensures)
    ∙ c.made_by.ensures c.args.node.now
