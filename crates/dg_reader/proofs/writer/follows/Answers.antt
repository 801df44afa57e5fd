use Rattle.std.proofs.Common.{rules}
use Rattle.dg_reader.proofs.writer.follows.Goals as goal

pub returns-in-Semicolon : goal.returns-in-Semicolon
returns-in-Semicolon c = search rules
