-- The table is that of the declarations so far.
use Rattle.type_graph.proofs.SpaceLemmas.{IsSoFar}
use Rattle.type_graph.proofs.spaces.add_names.Given as goal

abbrev pub invariant-loop-decl : goal.invariant-loop-decl
invariant-loop-decl l = IsSoFar l.space l.decls l.decl-index l.names l.built_in l.declared
