use Rattle.std.proofs.Common.{◌<◌, ◌∷◌, [], length, subst}
use Rattle.dg_reader.specs.Reads.{MayReadExtra, ReadsExtras}
use Rattle.dg_reader.proofs.ListLemmas.{extras_none, extras_more}
use Rattle.dg_reader.proofs.cursor.Cursor.extras.Goals as goal

pub extras-init : goal.extras-init
extras-init c = rw c.new-extras.ensures (extras_none c.args.self.now)

pub extras-preserved : goal.extras-preserved
extras-preserved c =
    let r : ReadsExtras (c.in-Some.extra ∷ []) c.extras.self c.extra.new.self × (length c.extra.new.self < length c.extras.self) = subst (λ o. MayReadExtra o c.extras.self c.extra.new.self) c.in-Some.is c.in_ok-extra.ensures.ok in
    rw c.in_ok-push.ensures.ok (extras_more c.extras.extras c.in-Some.extra c.args.self.now c.extras.self c.extra.new.self c.extras.invariant r.0)
