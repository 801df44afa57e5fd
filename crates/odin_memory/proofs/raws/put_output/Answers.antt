use Rattle.std.proofs.Common.{rules}
use Rattle.odin_memory.proofs.raws.put_output.Goals as goal

pub returns : goal.returns
returns c = search rules
