use Rattle.std.proofs.Common.{◌≡◌}
use Rattle.build_view.proofs.runs.Runs.ended.Given as goal

-- nothing changes before the run is found
abbrev pub invariant-loop-place : goal.invariant-loop-place
invariant-loop-place l = l.self ≡ l.initial.self
