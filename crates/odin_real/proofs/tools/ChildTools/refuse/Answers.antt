use Rattle.std.proofs.Common.{ap, map}
use Rattle.odin_real.proofs.RunningLemmas.{fails}
use Rattle.odin_real.proofs.tools.ChildTools.refuse.Goals as goal

pub returns-clause-fails : goal.returns-clause-fails
returns-clause-fails g c = fails _ _ _ _ _ _ (ap (λ started. map (λ tool. tool.running) started.items) c.count_fault.ensures.started) c.count_fault.ensures.starts c.count_fault.ensures.counted
