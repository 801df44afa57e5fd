use Rattle.std.proofs.Common.{◌≡◌, take}
use Rattle.dynamic_inputs.specs.Closures.{with_names}
use Rattle.dynamic_inputs.specs.Places.{ArePlaces}
use Rattle.dynamic_inputs.proofs.closure.places_of.Given as goal

abbrev pub invariant-loop-line : goal.invariant-loop-line
invariant-loop-line l = record {
  added : l.names ≡ with_names l.fn.names (take l.line-index l.lines);
  at : ArePlaces l.names (take l.line-index l.lines) l.places;
}
