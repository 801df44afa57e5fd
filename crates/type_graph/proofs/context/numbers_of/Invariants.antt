-- The numbers of the names so far.
use Rattle.std.proofs.Common.{◌≡◌, take}
use Rattle.std.specs.Prelude.{filter_map}
use Rattle.type_graph.specs.Places.{place_of}
use Rattle.type_graph.proofs.context.numbers_of.Given as goal

abbrev pub invariant-loop-name : goal.invariant-loop-name
invariant-loop-name l = l.numbers ≡ filter_map (place_of l.types) (take l.name-index l.names)
