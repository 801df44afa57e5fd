use Rattle.std.proofs.Common.{◌≡◌, ◌++◌, take}
use Rattle.meaning_tasks.specs.Tasks.{led_nodes}
use Rattle.node_tasks.proofs.needing.put_led_nodes.Given as goal

abbrev pub invariant-loop-extra : goal.invariant-loop-extra
invariant-loop-extra l = l.whole ≡ l.initial.whole ++ led_nodes (take l.extra-index l.extras)
