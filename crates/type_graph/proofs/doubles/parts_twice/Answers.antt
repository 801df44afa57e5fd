use Rattle.std.proofs.Common.{rules}
use Rattle.type_graph.proofs.doubles.parts_twice.Goals as goal

pub returns-in-Compound : goal.returns-in-Compound
returns-in-Compound c = search rules
