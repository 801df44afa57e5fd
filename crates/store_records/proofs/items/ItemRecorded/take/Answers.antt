use Rattle.std.proofs.Common.{arith}
use Rattle.store_records.proofs.KindLemmas.{kind_join, item_nowhere}
use Rattle.store_records.proofs.items.ItemRecorded.take.Goals as goal

pub returns-in_default-2-clause-none : goal.returns-in_default-2-clause-none
returns-in_default-2-clause-none c =
    item_nowhere _ _ _ _ c.in-Some.ensures.some (λ is. rw c.in_default-2.is at c.in_ok-text-in-1.ensures.none) (λ is. absurd (omega arith)) (λ is. absurd (omega arith)) (λ is. absurd (omega arith)) (λ is. absurd (omega arith)) (λ is. absurd (omega arith))

pub returns-in-Some-2-clause-some : goal.returns-in-Some-2-clause-some
returns-in-Some-2-clause-some c =
    let there = rw c.in-Some-2.is at c.in_ok-text-in-1.ensures.some in
    record { fits = there.fits; field = kind_join _ _ _ _ _ _ _ c.in-Some.ensures.some c.in-1.is there.field }

pub returns-in_default-3-clause-none : goal.returns-in_default-3-clause-none
returns-in_default-3-clause-none c =
    item_nowhere _ _ _ _ c.in-Some.ensures.some (λ is. absurd (omega arith)) (λ is. rw c.in_default-3.is at c.in_ok-value-in-2.ensures.none) (λ is. absurd (omega arith)) (λ is. absurd (omega arith)) (λ is. absurd (omega arith)) (λ is. absurd (omega arith))

pub returns-in-Some-3-clause-some : goal.returns-in-Some-3-clause-some
returns-in-Some-3-clause-some c =
    let there = rw c.in-Some-3.is at c.in_ok-value-in-2.ensures.some in
    record { fits = there.fits; field = kind_join _ _ _ _ _ _ _ c.in-Some.ensures.some c.in-2.is there.field }

pub returns-in_default-4-clause-none : goal.returns-in_default-4-clause-none
returns-in_default-4-clause-none c =
    item_nowhere _ _ _ _ c.in-Some.ensures.some (λ is. absurd (omega arith)) (λ is. absurd (omega arith)) (λ is. rw c.in_default-4.is at c.in_ok-put-in-3.ensures.none) (λ is. absurd (omega arith)) (λ is. absurd (omega arith)) (λ is. absurd (omega arith))

pub returns-in-Some-4-clause-some : goal.returns-in-Some-4-clause-some
returns-in-Some-4-clause-some c =
    let there = rw c.in-Some-4.is at c.in_ok-put-in-3.ensures.some in
    record { fits = there.fits; field = kind_join _ _ _ _ _ _ _ c.in-Some.ensures.some c.in-3.is there.field }

pub returns-in_default-5-clause-none : goal.returns-in_default-5-clause-none
returns-in_default-5-clause-none c =
    item_nowhere _ _ _ _ c.in-Some.ensures.some (λ is. absurd (omega arith)) (λ is. absurd (omega arith)) (λ is. absurd (omega arith)) (λ is. rw c.in_default-5.is at c.in_ok-name-in-4.ensures.none) (λ is. absurd (omega arith)) (λ is. absurd (omega arith))

pub returns-in-Some-5-clause-some : goal.returns-in-Some-5-clause-some
returns-in-Some-5-clause-some c =
    let there = rw c.in-Some-5.is at c.in_ok-name-in-4.ensures.some in
    record { fits = there.fits; field = kind_join _ _ _ _ _ _ _ c.in-Some.ensures.some c.in-4.is there.field }

pub returns-in_default-6-clause-none : goal.returns-in_default-6-clause-none
returns-in_default-6-clause-none c =
    item_nowhere _ _ _ _ c.in-Some.ensures.some (λ is. absurd (omega arith)) (λ is. absurd (omega arith)) (λ is. absurd (omega arith)) (λ is. absurd (omega arith)) (λ is. rw c.in_default-6.is at c.in_ok-kept-in-5.ensures.none) (λ is. absurd (omega arith))

pub returns-in-Some-6-clause-some : goal.returns-in-Some-6-clause-some
returns-in-Some-6-clause-some c =
    let there = rw c.in-Some-6.is at c.in_ok-kept-in-5.ensures.some in
    record { fits = there.fits; field = kind_join _ _ _ _ _ _ _ c.in-Some.ensures.some c.in-5.is there.field }

pub returns-in_default-7-clause-none : goal.returns-in_default-7-clause-none
returns-in_default-7-clause-none c =
    item_nowhere _ _ _ _ c.in-Some.ensures.some (λ is. absurd (omega arith)) (λ is. absurd (omega arith)) (λ is. absurd (omega arith)) (λ is. absurd (omega arith)) (λ is. absurd (omega arith)) (λ is. rw c.in_default-7.is at c.in_ok-record-in-6.ensures.none)

pub returns-in-Some-7-clause-some : goal.returns-in-Some-7-clause-some
returns-in-Some-7-clause-some c =
    let there = rw c.in-Some-7.is at c.in_ok-record-in-6.ensures.some in
    record { fits = there.fits; field = kind_join _ _ _ _ _ _ _ c.in-Some.ensures.some c.in-6.is there.field }
