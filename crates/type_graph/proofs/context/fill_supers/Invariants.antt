-- The table of the types so far.
use Rattle.std.proofs.Common.{◌≡◌, take}
use Rattle.meaning_graph.specs.Graphs.{types}
use Rattle.type_graph.specs.Places.{place_of}
use Rattle.type_graph.specs.Shapes.{supers_of_all}
use Rattle.type_graph.proofs.context.fill_supers.Given as goal

abbrev pub invariant-loop-decl : goal.invariant-loop-decl
invariant-loop-decl l = l.supers ≡ supers_of_all (place_of l.names) (types (take l.decl-index l.decls))
