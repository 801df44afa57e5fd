-- The table of types numbers names as the graph does.
use Rattle.std.proofs.Common.{◌≡◌, ◌∙◌, ap, subst}
use Rattle.std.specs.Prelude.{IfOk, filter_map}
use Rattle.meaning_graph.specs.Graphs.{type_named}
use Rattle.type_graph.proofs.ContextLemmas.{numbering}
use Rattle.type_graph.proofs.context.Context.numbers.Goals as goal

pub returns : goal.returns
returns c = subst (λ f. IfOk c.numbers_of.result (λ numbers. numbers ≡ filter_map f c.args.names.now)) (numbering c.self.inside.decls.now c.self.inside.spaces.types c.self.invariant.spaces_are.types_are ∙ ap type_named c.self.view_is) c.numbers_of.ensures
