use Rattle.std.proofs.Common.{◌≡◌, ◌++◌, take}
use Rattle.std.specs.List.{flat_map}
use Rattle.build_view.specs.Pages.{bar}
use Rattle.build_view.proofs.pages.write_bars.Given as goal

abbrev pub invariant-loop-run : goal.invariant-loop-run
invariant-loop-run l = l.out ≡ l.initial.out ++ flat_map (bar l.step) (take l.run-index l.runs)
