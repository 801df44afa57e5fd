use Rattle.store_records.proofs.KindLemmas.{kind_join, option_nowhere}
use Rattle.store_records.proofs.groups.OptionRecorded.take.Goals as goal

pub returns-in_default-2-clause-none : goal.returns-in_default-2-clause-none
returns-in_default-2-clause-none g c =
    option_nowhere g.T.Recorded.form _ _ _ _ c.in-Some.ensures.some c.in-1.is (rw c.in_default-2.is at c.in_ok-member-in-1.ensures.none)

pub returns-in-Some-2-clause-some : goal.returns-in-Some-2-clause-some
returns-in-Some-2-clause-some g c =
    let there = rw c.in-Some-2.is at c.in_ok-member-in-1.ensures.some in
    record { fits = there.fits; field = kind_join _ _ _ _ _ _ _ c.in-Some.ensures.some c.in-1.is there.field }
