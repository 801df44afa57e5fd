-- A type's number is the place of its name.
use Rattle.std.proofs.Common.{◌∙◌, sym, ap, arith}
use Rattle.meaning_graph.specs.Graphs.{type_named}
use Rattle.type_graph.proofs.TableLemmas.{type_there, type_fits}
use Rattle.type_graph.proofs.graph.Graph.type_named.Goals as goal

pub returns-in_err-place : goal.returns-in_err-place
returns-in_err-place c = c.from_residual.ensures ∙ c.in_err-place.ensures ∙ type_there c.self.inside.decls c.self.inside.tables.spaces.types c.self.invariant.named.types_are c.args.name.now ∙ ap (λ g. type_named g c.args.name.now) c.self.view_is

pub overflow_cast-result : goal.overflow_cast-result
overflow_cast-result c = omega (arith, type_fits c.self.inside.decls c.self.inside.tables.spaces.types c.self.invariant.named.types_are c.self.invariant.sound.few c.args.name.now c.in_ok-place.place (sym c.in_ok-place.ensures))

pub returns : goal.returns
returns c = c.in_ok-place.ensures ∙ type_there c.self.inside.decls c.self.inside.tables.spaces.types c.self.invariant.named.types_are c.args.name.now ∙ ap (λ g. type_named g c.args.name.now) c.self.view_is
