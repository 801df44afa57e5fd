-- What is left of the place after the declarations so far.
use Rattle.std.proofs.Common.{◌≡◌, drop, filter_map, option_map, slice_get}
use Rattle.object_values.specs.declared.graph.TypeDecl.{TypeDecl}
use Rattle.meaning_graph.specs.Graphs.{as_type}
use Rattle.odin_nodes.specs.Kinds.{declared_at}
use Rattle.validator.proofs.fitting.declared_kind.Given as goal

abbrev pub invariant-loop-decl : goal.invariant-loop-decl
invariant-loop-decl l = declared_at l.decls l.fn.number ≡ option_map (λ (t : TypeDecl). t.kind) (slice_get (filter_map as_type (drop l.decl-index l.decls)) l.left)
