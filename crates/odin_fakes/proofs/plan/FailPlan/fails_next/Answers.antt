use Rattle.std.proofs.Common.{rules}
use Rattle.odin_fakes.proofs.plan.FailPlan.fails_next.Goals as goal

pub returns-clause-fails : goal.returns-clause-fails
returns-clause-fails c = search rules
