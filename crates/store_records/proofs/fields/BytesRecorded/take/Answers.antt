use Rattle.store_records.proofs.fields.BytesRecorded.take.Goals as goal

pub returns-clause-some : goal.returns-clause-some
returns-clause-some c = rw c.in_ok-from_slice.ensures (rw c.as_slice.ensures c.in-Some.ensures.some.stands)
