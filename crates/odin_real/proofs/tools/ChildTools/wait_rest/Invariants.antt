use Rattle.std.proofs.Common.{◌≡◌, vec_len}
use Rattle.odin_real.proofs.tools.ChildTools.wait_rest.Given as goal

abbrev pub decreases-loop-tool : goal.decreases-loop-tool
decreases-loop-tool g l = vec_len l.self.started

abbrev pub invariant-loop-tool : goal.invariant-loop-tool
invariant-loop-tool g l = record {
  starts : l.self.starts ≡ l.fn.self.starts;
  faults : l.self.faults ≡ l.fn.self.faults;
}
