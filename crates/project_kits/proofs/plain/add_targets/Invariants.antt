use Rattle.std.proofs.Common.{◌≡◌, ◌++◌, take}
use Rattle.project_kits.proofs.plain.add_targets.Given as goal

abbrev pub invariant-loop-target : goal.invariant-loop-target
invariant-loop-target l = l.targets ≡ l.initial.targets ++ take l.target-index l.more
