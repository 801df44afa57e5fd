use Rattle.std.proofs.Common.{rules}
use Rattle.odin_memory.proofs.directives.leaves_output.Goals as goal

pub returns : goal.returns
returns c = search rules
