use Rattle.std.proofs.Common.{rules}
use Rattle.dg_reader.proofs.lexer.token_at.Goals as goal

pub returns-in-44 : goal.returns-in-44
returns-in-44 c = search rules
