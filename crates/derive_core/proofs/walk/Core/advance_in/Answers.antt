use Rattle.std.proofs.Common.{sym, subst}
use Rattle.derive_walk.specs.Walks.{Walked, IsFormed, IsRight}
use Rattle.derive_core.specs.Kept.{kept_world}
use Rattle.derive_core.proofs.walk.Core.advance_in.Goals as goal

pub advance-requires-clause-formed : goal.advance-requires-clause-formed
advance-requires-clause-formed g c =
    subst (λ (z : Walked). IsFormed (kept_world c.args.looks.now.kept.now c.args.epoch c.args.planned.now c.args.sources.now.texts z.given) z) (sym c.self.view_is) c.requires.formed

pub returns-clause-right : goal.returns-clause-right
returns-clause-right g c right =
    c.advance.ensures.right (subst (λ (z : Walked). IsRight (kept_world c.args.looks.now.kept.now c.args.epoch c.args.planned.now c.args.sources.now.texts z.given) z)
    (sym c.self.view_is) right)

pub returns-clause-advanced : goal.returns-clause-advanced
returns-clause-advanced g c right =
    c.advance.ensures.advanced (subst (λ (z : Walked). IsRight (kept_world c.args.looks.now.kept.now c.args.epoch c.args.planned.now c.args.sources.now.texts z.given) z)
    (sym c.self.view_is) right)
