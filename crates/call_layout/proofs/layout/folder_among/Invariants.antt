use Rattle.std.proofs.Common.{◌≡◌, ℕ, ◌<◌, false}
use Rattle.call_layout.specs.Layout.{has_folder_at}
use Rattle.call_layout.proofs.layout.folder_among.Given as goal

abbrev pub invariant-loop-at : goal.invariant-loop-at
invariant-loop-at l = (k : ℕ) → k < l.at → has_folder_at l.firsts.parts.now l.label k ≡ false
