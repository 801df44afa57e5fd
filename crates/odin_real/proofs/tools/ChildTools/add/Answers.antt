use Rattle.std.proofs.Common.{rules}
use Rattle.odin_real.proofs.FaultLemmas.{pushed}
use Rattle.odin_real.proofs.tools.ChildTools.add.Goals as goal

pub returns-clause-tools : goal.returns-clause-tools
returns-clause-tools g c = pushed c.push.result _ _ _ (c.push.ensures.succeeds (search rules)) c.push.ensures.items
