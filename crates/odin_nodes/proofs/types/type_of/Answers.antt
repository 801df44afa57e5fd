use Rattle.std.proofs.Common.{◌∙◌, sym}
use Rattle.odin_nodes.proofs.TypeLemmas.{type_is_reached}
use Rattle.odin_nodes.proofs.types.type_of.Goals as goal

pub returns : goal.returns
returns c = c.reached_type.ensures ∙ sym (type_is_reached c.args.graph.now c.args.node.now c.if-not-has_words_of_class.ensures)
