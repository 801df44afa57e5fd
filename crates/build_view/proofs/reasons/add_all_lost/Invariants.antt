use Rattle.std.proofs.Common.{◌≡◌, take, fold}
use Rattle.build_view.specs.Reasons.{with_lost}
use Rattle.build_view.proofs.reasons.add_all_lost.Given as goal

abbrev pub invariant-loop-part : goal.invariant-loop-part
invariant-loop-part l = l.labels.keys ≡ fold (with_lost l.others) l.initial.labels.keys (take l.part-index l.parts)
