use Rattle.dynamic_inputs.specs.Closures.{lines_of}
use Rattle.dynamic_inputs.proofs.Sorted.{sorted_answer}
use Rattle.dynamic_inputs.proofs.closure.Closure.names.Goals as goal

pub returns : goal.returns
returns c = sorted_answer (lines_of c.args.self.now c.args.self.now.root) (lines_of c.args.self.now) c.reached.result.now c.reached.ensures.distinct c.reached.ensures.each c.sorted.result c.sorted.ensures.same c.sorted.ensures.sorted
