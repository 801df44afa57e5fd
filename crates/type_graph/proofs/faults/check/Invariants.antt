-- No declaration so far has a fault.
use Rattle.type_graph.proofs.FaultLemmas.{IsClean}
use Rattle.type_graph.proofs.faults.check.Given as goal

abbrev pub invariant-loop-decl : goal.invariant-loop-decl
invariant-loop-decl l = IsClean l.decls l.decl-index l.number l.before
