use Rattle.std.proofs.Common.{◌≡◌, ◌++◌, take, map}
use Rattle.std.specs.List.{flat_map}
use Rattle.meaning_texts.specs.Expressions.{step_spelling}
use Rattle.meaning_tasks.specs.Labels.{written_step}
use Rattle.odin_nodes.proofs.names.put_steps.Given as goal

abbrev pub invariant-loop-step : goal.invariant-loop-step
invariant-loop-step l = l.out ≡ l.initial.out ++ flat_map step_spelling (map (written_step l.graph) (take l.step-index l.steps))
