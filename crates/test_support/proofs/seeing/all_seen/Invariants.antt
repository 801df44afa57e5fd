use Rattle.std.proofs.Common.{◌≡◌, take, true}
use Rattle.test_support.specs.Seen.{all_known}
use Rattle.test_support.proofs.seeing.all_seen.Given as goal

abbrev pub invariant-loop-node : goal.invariant-loop-node
invariant-loop-node g l = all_known (g.R.Results.results l.seen) (take l.node-index l.nodes) ≡ true
