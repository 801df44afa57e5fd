use Rattle.std.proofs.Common.{sym, ◌∙◌, subst}
use Rattle.meaning_texts.specs.Lists.{IsIn}
use Rattle.derive_walk.proofs.CallLemmas.{LacksOne, found_one, once, taken_out}
use Rattle.derive_walk.proofs.wanted.Wanted.take.Goals as goal

pub invariant_of-self : goal.invariant_of-self
invariant_of-self c = once _ c.swap_take.ensures.unique

pub returns-clause-taken : goal.returns-clause-taken
returns-clause-taken c there = c.swap_take.ensures.key ∙ found_one _ c.args.call.now (subst (λ l. IsIn c.args.call.now l) (sym c.self.view_is) there)

pub returns-clause-fewer : goal.returns-clause-fewer
returns-clause-fewer c =
    let call = c.args.call.now in
    let keys = c.swap_take.new.self.keys in
    taken_out c.args.self.now keys call (subst (λ l. LacksOne l keys call) c.self.view_is c.swap_take.ensures.updates.0)
