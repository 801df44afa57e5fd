use Rattle.std.proofs.Common.{◌∙◌, ap}
use Rattle.meaning_graph.specs.Suffixes.{source_type}
use Rattle.odin_nodes.proofs.MakeLemmas.{start_typed}
use Rattle.odin_nodes.proofs.making.Reached.start.Goals as goal

pub returns-clause-typed : goal.returns-clause-typed
returns-clause-typed c = start_typed c.args.graph.now c.args.source c.args.params c.new-steps.result c.source_type-at.result c.new-steps.ensures (c.source_type-at.ensures ∙ ap (source_type c.args.graph.now) c.as_slice.ensures)
