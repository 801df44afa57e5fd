use Rattle.std.proofs.Common.{◌≡◌, ◌++◌, take}
use Rattle.std.specs.List.{flat_map}
use Rattle.meaning_texts.specs.Expressions.{step_spelling}
use Rattle.request_parser.proofs.write.put_steps.Given as goal

abbrev pub invariant-steps : goal.invariant-steps
invariant-steps l = l.out ≡ l.initial.out ++ flat_map step_spelling (take l.step-index l.steps)
