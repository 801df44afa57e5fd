use Rattle.std.proofs.Common.{arith, sym, ◌∙◌}
use Rattle.call_layout.proofs.Firsts.{at_slash, slash_at, under_none}
use Rattle.call_layout.proofs.layout.folder_among.Goals as goal

pub returns-then-has_folder_at-clause-some : goal.returns-then-has_folder_at-clause-some
returns-then-has_folder_at-clause-some c =
    at_slash c.args.label.now c.loop-at.at (omega (arith, c.loop-at-test.true))
    (slash_at c.args.firsts.now.parts.now c.args.label.now c.loop-at.at (sym c.has_folder_at.ensures ∙ c.if-has_folder_at.true))

pub returns-clause-none : goal.returns-clause-none
returns-clause-none c =
    under_none c.args.firsts.now.parts.now c.args.label.now (λ k lt. c.loop-at.invariant k (omega (arith, lt, c.loop-at-test.false)))
