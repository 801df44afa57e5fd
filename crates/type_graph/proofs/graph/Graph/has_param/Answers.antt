-- A parameter is declared where its name has a place.
use Rattle.std.proofs.Common.{◌∙◌, ap}
use Rattle.std.specs.Prelude.{is_some}
use Rattle.meaning_graph.specs.Graphs.{has_param}
use Rattle.type_graph.proofs.TableLemmas.{param_there}
use Rattle.type_graph.proofs.graph.Graph.has_param.Goals as goal

pub returns : goal.returns
returns c = c.is_some.ensures ∙ ap is_some c.place.ensures ∙ param_there c.self.inside.decls c.self.inside.tables.spaces.params c.self.invariant.named.params_are c.args.name.now ∙ ap (λ g. has_param g c.args.name.now) c.self.view_is
