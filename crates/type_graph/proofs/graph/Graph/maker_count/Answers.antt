-- There is a place for each maker.
use Rattle.std.proofs.Common.{◌∙◌, ap, length, arith}
use Rattle.meaning_graph.specs.Graphs.{makers}
use Rattle.type_graph.proofs.TableLemmas.{few_makers, maker_count}
use Rattle.type_graph.proofs.graph.Graph.maker_count.Goals as goal

pub overflow_cast-result : goal.overflow_cast-result
overflow_cast-result c = omega (arith, c.len.ensures, maker_count c.self.inside.decls c.self.inside.tables.numbers.maker_places c.self.invariant.numbered.makers_are, few_makers c.self.inside.decls c.self.invariant.sound.few)

pub returns : goal.returns
returns c = c.len.ensures ∙ maker_count c.self.inside.decls c.self.inside.tables.numbers.maker_places c.self.invariant.numbered.makers_are ∙ ap (λ g. length (makers g)) c.self.view_is
