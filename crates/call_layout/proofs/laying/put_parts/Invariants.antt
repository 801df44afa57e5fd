use Rattle.std.proofs.Common.{◌≡◌, take, option_map}
use Rattle.call_layout.specs.Places.{laid}
use Rattle.call_layout.proofs.laying.put_parts.Given as goal

abbrev pub invariant-loop-part : goal.invariant-loop-part
invariant-loop-part g l = g.P.Place.files l.place ≡ option_map (laid (take l.part-index l.placed)) (g.P.Place.files l.fn.place)
