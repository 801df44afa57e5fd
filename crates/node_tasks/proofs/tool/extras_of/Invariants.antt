use Rattle.std.proofs.Common.{◌≡◌, take, map}
use Rattle.meaning_tasks.specs.Tasks.{extra_led}
use Rattle.node_tasks.proofs.tool.extras_of.Given as goal

abbrev pub invariant-loop-extra : goal.invariant-loop-extra
invariant-loop-extra l = l.extras ≡ map (extra_led l.planned l.node) (take l.extra-index l.tool.extras)
