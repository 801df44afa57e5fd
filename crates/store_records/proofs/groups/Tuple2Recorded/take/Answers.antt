use Rattle.meaning_records.specs.PlaceLemmas.{both_stand, first_nowhere, second_nowhere}
use Rattle.store_records.proofs.groups.Tuple2Recorded.take.Goals as goal

pub returns-in_default-clause-none : goal.returns-in_default-clause-none
returns-in_default-clause-none g c = first_nowhere _ _ _ _ (rw c.in_default.is at c.in_ok-first.ensures.none)

pub returns-in_default-2-clause-none : goal.returns-in_default-2-clause-none
returns-in_default-2-clause-none g c =
    second_nowhere _ _ g.met.A.Recorded.one _ _ _ _ (rw c.in-Some.is at c.in_ok-first.ensures.some) (rw c.in_default-2.is at c.in_ok-second.ensures.none)

pub returns-clause-some : goal.returns-clause-some
returns-clause-some g c =
    both_stand _ _ _ _ _ _ _ _ (rw c.in-Some.is at c.in_ok-first.ensures.some) (rw c.in-Some-2.is at c.in_ok-second.ensures.some)
