-- What is left of the place after the declarations so far.
use Rattle.std.proofs.Common.{◌≡◌, slice_get, filter_map}
use Rattle.meaning_graph.specs.Graphs.{as_type}
use Rattle.odin_nodes.proofs.PickLemmas.{declared_from}
use Rattle.odin_nodes.proofs.picks.declared_type.Given as goal

abbrev pub invariant-loop-decl : goal.invariant-loop-decl
invariant-loop-decl l = slice_get (filter_map as_type l.graph) l.fn.place ≡ declared_from l.decl-items l.decl-index l.left
