use Rattle.std.proofs.Common.{rules}
use Rattle.odin_nodes.proofs.statuses.worst.Goals as goal

pub returns : goal.returns
returns c = search rules
