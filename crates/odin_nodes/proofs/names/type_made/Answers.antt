use Rattle.std.proofs.Common.{rules}
use Rattle.odin_nodes.proofs.names.type_made.Goals as goal

pub returns-in-Some : goal.returns-in-Some
returns-in-Some c = search rules
