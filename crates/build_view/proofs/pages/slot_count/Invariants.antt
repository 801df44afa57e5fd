use Rattle.std.proofs.Common.{◌≡◌, ◌<◌, ◌^◌, take}
use Rattle.build_view.specs.Pages.{slot_count}
use Rattle.build_view.proofs.pages.slot_count.Given as goal

abbrev pub invariant-loop-run : goal.invariant-loop-run
invariant-loop-run l = (l.count ≡ slot_count (take l.run-index l.runs)) × (l.count < 2 ^ 33)
