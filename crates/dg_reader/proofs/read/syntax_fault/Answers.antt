use Rattle.std.proofs.Common.{rules}
use Rattle.dg_reader.proofs.read.syntax_fault.Goals as goal

pub returns : goal.returns
returns c = search rules
