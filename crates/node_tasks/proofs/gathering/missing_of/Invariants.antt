use Rattle.std.proofs.Common.{◌≡◌, take}
use Rattle.meaning_tasks.specs.Tasks.{led_missing}
use Rattle.node_tasks.proofs.gathering.missing_of.Given as goal

abbrev pub invariant-loop-one : goal.invariant-loop-one
invariant-loop-one l = l.missing ≡ led_missing (take l.one-index l.led)
