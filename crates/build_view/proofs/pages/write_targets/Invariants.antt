use Rattle.std.proofs.Common.{◌≡◌, ◌++◌, take}
use Rattle.std.specs.List.{flat_map}
use Rattle.build_view.specs.Pages.{target_row}
use Rattle.build_view.proofs.pages.write_targets.Given as goal

abbrev pub invariant-loop-target : goal.invariant-loop-target
invariant-loop-target l = l.out ≡ l.initial.out ++ flat_map target_row (take l.target-index l.targets)
