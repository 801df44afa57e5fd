use Rattle.derive_walk.proofs.PlaceLemmas.{tight_put}
use Rattle.derive_walk.proofs.noting.NotedDeps.put_node.Goals as goal

pub returns-clause-tight : goal.returns-clause-tight
returns-clause-tight c = λ was. tight_put c.put.result c.args.done.now c.args.below _ _ _ _ _ was c.entry-entry.ensures c.is_at-fits.ensures c.put.ensures.deps c.put.ensures.tight
