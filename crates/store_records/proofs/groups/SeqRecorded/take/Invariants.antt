use Rattle.std.proofs.Common.{◌≡◌, length}
use Rattle.meaning_records.specs.PlaceLemmas.{FollowAt}
use Rattle.store_records.proofs.groups.SeqRecorded.take.Given as goal

-- the members so far follow each other up to the place
abbrev pub invariant-loop : goal.invariant-loop
invariant-loop g l = record {
  follow : FollowAt g.T.Recorded.form l.from l.start l.place l.members;
  counted : length l.members ≡ l.counter;
}
