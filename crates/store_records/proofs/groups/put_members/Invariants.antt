use Rattle.std.proofs.Common.{◌≡◌, ◌++◌, take, flat_map, All}
use Rattle.store_records.proofs.groups.put_members.Given as goal

-- the records of the members so far, each of which fits
abbrev pub invariant-loop-member : goal.invariant-loop-member
invariant-loop-member g l = record {
  records : l.out ≡ l.initial.out ++ flat_map g.T.Recorded.form.spell (take l.member-index l.members);
  fit : All g.T.Recorded.form.fits (take l.member-index l.members);
}
