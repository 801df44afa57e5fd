use Rattle.std.proofs.Common.{◌≡◌, arith}
use Rattle.store_records.proofs.ContentLemmas.{content_stands, content_nowhere, other_end}
use Rattle.store_records.proofs.contents.take_content.Goals as goal

pub returns-in_default-2-clause-none : goal.returns-in_default-2-clause-none
returns-in_default-2-clause-none c = content_nowhere _ _ _ _ c.in-Some.ensures.some (rw c.in_default-2.is at c.in_ok-value.ensures.none)

pub returns-then-behind-end-clause-none : goal.returns-then-behind-end-clause-none
returns-then-behind-end-clause-none c = other_end _ _ _ _ _ _ c.in-Some.ensures.some (rw c.in-Some-2.is at c.in_ok-value.ensures.some) (λ is. omega (arith, c.if-behind-end.true))

pub returns-clause-some : goal.returns-clause-some
returns-clause-some c =
    let same : c.in-Some-2.behind ≡ c.in-Some.end = omega (arith, c.if-behind-end.false) in
    content_stands _ _ _ _ _ c.in-Some.ensures.some (rw same at (rw c.in-Some-2.is at c.in_ok-value.ensures.some))
