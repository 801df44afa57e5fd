-- The steps so far are made.
use Rattle.odin_nodes.proofs.MakeLemmas.{AreMade}
use Rattle.odin_nodes.proofs.making.Reached.add_steps.Given as goal

abbrev pub invariant-loop-before : goal.invariant-loop-before
invariant-loop-before l = AreMade l.planned l.fn.self.node l.steps l.before l.self.node l.self.at
