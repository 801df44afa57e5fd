use Rattle.std.proofs.Common.{◌∙◌, sym, true≢false}
use Rattle.kept_tables.proofs.LoadLemmas.{not_kept}
use Rattle.kept_tables.proofs.kept.Kept.take_call.Goals as goal

pub returns-then-not-may_take-clause-none : goal.returns-then-not-may_take-clause-none
returns-then-not-may_take-clause-none c =
    let called = rw c.in-Some.is at c.in_ok-held.ensures.some in
    let came = rw (c.in-Some-2.is, c.in_ok-held.ensures.same) at c.in_ok-outcome.ensures.some in
    not_kept c.args.self.now.tables c.args.stored c.args.given c.in-Some.held.call c.in-Some-2.outcome called came (λ may. true≢false (sym (c.may_take.ensures.1 (rw c.in_ok-held.ensures.same may)) ∙ c.if-not-may_take.true))
