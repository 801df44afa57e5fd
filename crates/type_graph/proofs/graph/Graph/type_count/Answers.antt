-- There is a row for each type.
use Rattle.std.proofs.Common.{arith}
use Rattle.type_graph.proofs.TableLemmas.{few_types}
use Rattle.type_graph.proofs.graph.Graph.type_count.Goals as goal

pub overflow_cast-result : goal.overflow_cast-result
overflow_cast-result c = omega (arith, c.count.ensures, c.self.invariant.ordered.counted, few_types c.self.inside.decls c.self.invariant.sound.few)
