use Rattle.std.proofs.Common.{rules}
use Rattle.odin_journal.proofs.reads.start_in.Goals as goal

pub returns-else-front-eq0-clause-start : goal.returns-else-front-eq0-clause-start
returns-else-front-eq0-clause-start c = search rules
