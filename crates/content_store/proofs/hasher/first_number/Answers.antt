use Rattle.std.proofs.Common.{rules}
use Rattle.content_store.specs.Digesting.{first_number}
use Rattle.content_store.proofs.hasher.first_number.Goals as goal

pub returns : goal.returns
unfolding first_number
returns c = search rules
