use Rattle.std.proofs.Common.{refl}
use Rattle.content_store.specs.Digesting.{initial}
use Rattle.content_store.proofs.hasher.ShaHasherDefault.default.Goals as goal

pub returns : goal.returns
unfolding initial
returns c = refl
