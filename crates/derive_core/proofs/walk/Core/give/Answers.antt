use Rattle.std.proofs.Common.{sym, subst}
use Rattle.derive_walk.specs.Settings.{world_by}
use Rattle.derive_walk.specs.Walks.{Walked, IsFormed, IsRight}
use Rattle.derive_core.proofs.walk.Core.give.Goals as goal

pub returns-clause-formed : goal.returns-clause-formed
returns-clause-formed c g s keeping formed = c.give.ensures.formed g s keeping (subst (λ (z : Walked). IsFormed (world_by keeping g s z.given) z) (sym c.self.view_is) formed)

pub returns-clause-right : goal.returns-clause-right
returns-clause-right c g s keeping right = c.give.ensures.right g s keeping (subst (λ (z : Walked). IsRight (world_by keeping g s z.given) z) (sym c.self.view_is) right)
