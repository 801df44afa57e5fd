use Rattle.std.proofs.Common.{◌≡◌, sym, subst}
use Rattle.std.specs.Prelude.{None}
use Rattle.derive_walk.specs.Walks.{IsFormed, IsRight, new_walk}
use Rattle.derive_walk.proofs.Starts.{new_is_formed, new_is_right}
use Rattle.derive_walk.proofs.walker.Walker.new.Goals as goal

pub returns-clause-formed : goal.returns-clause-formed
returns-clause-formed c w fits fit =
    let is : _ ≡ new_walk c.args.root = λ i. record { root = c.args.root; done = c.new.ensures i; fresh = c.new-2.ensures i; renewed = c.new-3.ensures i; given = c.new-9.ensures i; wanted = c.new-4.ensures i; looked = c.new-5.ensures i; taken = c.new-6.ensures i; result = None } in
    subst (IsFormed w) (sym is) (new_is_formed w c.args.root fits fit)

pub returns-clause-right : goal.returns-clause-right
returns-clause-right c w fits fit knows =
    let is : _ ≡ new_walk c.args.root = λ i. record { root = c.args.root; done = c.new.ensures i; fresh = c.new-2.ensures i; renewed = c.new-3.ensures i; given = c.new-9.ensures i; wanted = c.new-4.ensures i; looked = c.new-5.ensures i; taken = c.new-6.ensures i; result = None } in
    subst (IsRight w) (sym is) (new_is_right w c.args.root fits fit knows)
