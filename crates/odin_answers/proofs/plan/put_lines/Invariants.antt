use Rattle.std.proofs.Common.{◌≡◌, ◌++◌, take, map}
use Rattle.std.specs.List.{flat_map}
use Rattle.meaning_texts.specs.Lines.{with_lf}
use Rattle.meaning_derive.specs.Replies.{step_line}
use Rattle.odin_answers.proofs.plan.put_lines.Given as goal

abbrev pub invariant-loop-step : goal.invariant-loop-step
invariant-loop-step l = l.out ≡ l.initial.out ++ flat_map with_lf (map (step_line l.graph) (take l.step-index l.steps))
