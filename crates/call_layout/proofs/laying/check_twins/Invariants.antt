use Rattle.std.proofs.Common.{◌≡◌, take}
use Rattle.std.specs.List.{All}
use Rattle.call_layout.specs.Places.{HasFirstBytes}
use Rattle.call_layout.proofs.laying.check_twins.Given as goal

abbrev pub invariant-loop-part : goal.invariant-loop-part
invariant-loop-part g l = record {
  same : All (HasFirstBytes (g.P.Place.files l.fn.place)) (take l.part-index l.placed);
  kept : g.P.Place.files l.place ≡ g.P.Place.files l.fn.place;
}
