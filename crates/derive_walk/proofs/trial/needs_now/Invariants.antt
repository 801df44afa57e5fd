use Rattle.std.proofs.Common.{take}
use Rattle.derive_walk.specs.SeenNow.{AreNow}
use Rattle.derive_walk.proofs.trial.needs_now.Given as goal

abbrev pub invariant-loop-dep : goal.invariant-loop-dep
invariant-loop-dep g l = AreNow (g.K.Known.keeps l.known).contents l.done (take l.dep-index l.deps) l.now.items
