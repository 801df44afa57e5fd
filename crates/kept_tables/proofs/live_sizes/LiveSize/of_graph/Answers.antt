use Rattle.std.proofs.Common.{arith}
use Rattle.kept_tables.proofs.SizeLemmas.{graph_long}
use Rattle.kept_tables.proofs.live_sizes.LiveSize.of_graph.Goals as goal

pub returns-clause-items : goal.returns-clause-items
returns-clause-items c = let long = graph_long c.args.graph.now in let before = c.in_ok-items.ensures in omega (arith, long, before)
