use Rattle.std.proofs.Common.{arith}
use Rattle.store_records.proofs.KindLemmas.{kind_join, value_nowhere}
use Rattle.store_records.proofs.nodes.ValueRecorded.take.Goals as goal

pub returns-in_default-2-clause-none : goal.returns-in_default-2-clause-none
returns-in_default-2-clause-none c =
    value_nowhere _ _ _ _ c.in-Some.ensures.some (λ is. rw c.in_default-2.is at c.in_ok-text-in-1.ensures.none) (λ is. absurd (omega arith)) (λ is. absurd (omega arith))

pub returns-in-Some-2-clause-some : goal.returns-in-Some-2-clause-some
returns-in-Some-2-clause-some c =
    let there = rw c.in-Some-2.is at c.in_ok-text-in-1.ensures.some in
    record { fits = there.fits; field = kind_join _ _ _ _ _ _ _ c.in-Some.ensures.some c.in-1.is there.field }

pub returns-in_default-3-clause-none : goal.returns-in_default-3-clause-none
returns-in_default-3-clause-none c =
    value_nowhere _ _ _ _ c.in-Some.ensures.some (λ is. absurd (omega arith)) (λ is. rw c.in_default-3.is at c.in_ok-nodes-in-2.ensures.none) (λ is. absurd (omega arith))

pub returns-in-Some-3-clause-some : goal.returns-in-Some-3-clause-some
returns-in-Some-3-clause-some c =
    let there = rw c.in-Some-3.is at c.in_ok-nodes-in-2.ensures.some in
    record { fits = there.fits; field = kind_join _ _ _ _ _ _ _ c.in-Some.ensures.some c.in-2.is there.field }

pub returns-in_default-4-clause-none : goal.returns-in_default-4-clause-none
returns-in_default-4-clause-none c =
    value_nowhere _ _ _ _ c.in-Some.ensures.some (λ is. absurd (omega arith)) (λ is. absurd (omega arith)) (λ is. rw c.in_default-4.is at c.in_ok-parts-in-3.ensures.none)

pub returns-in-Some-4-clause-some : goal.returns-in-Some-4-clause-some
returns-in-Some-4-clause-some c =
    let there = rw c.in-Some-4.is at c.in_ok-parts-in-3.ensures.some in
    record { fits = there.fits; field = kind_join _ _ _ _ _ _ _ c.in-Some.ensures.some c.in-3.is there.field }
