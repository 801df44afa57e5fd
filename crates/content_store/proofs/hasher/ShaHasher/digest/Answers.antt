use Rattle.std.proofs.Common.{rules}
use Rattle.content_store.specs.Digesting.{digest}
use Rattle.content_store.proofs.hasher.ShaHasher.digest.Goals as goal

pub returns : goal.returns
unfolding digest
returns c = search rules
