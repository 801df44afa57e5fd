use Rattle.std.proofs.Common.{rules}
use Rattle.odin_real.specs.Seen.{seen_of}
use Rattle.odin_real.proofs.AskedLemmas.{asked_there, all_same, same_beside}
use Rattle.odin_real.proofs.slots.end_at.Goals as goal

pub returns-clause-asked : goal.returns-clause-asked
returns-clause-asked g c = asked_there seen_of _ c.args.started.now.items c.args.place c.index_mut.result.now c.end.new.self (search rules) (all_same _) (search rules)

pub returns-clause-others : goal.returns-clause-others
returns-clause-others g c = same_beside c.args.started.now.items c.args.place c.end.new.self
