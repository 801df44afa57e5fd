-- A parameter is declared where its name has a place.
use Rattle.std.proofs.Common.{◌∙◌, ap, subst}
use Rattle.std.specs.Prelude.{is_some}
use Rattle.meaning_graph.specs.Graphs.{has_param}
use Rattle.type_graph.specs.Places.{place_of, AreOf}
use Rattle.type_graph.proofs.TableLemmas.{param_there}
use Rattle.type_graph.proofs.ContextLemmas.{names_of_params}
use Rattle.type_graph.proofs.context.Context.has_param.Goals as goal

pub returns : goal.returns
returns c =
    c.is_some.ensures ∙ ap is_some c.place.ensures ∙ ap (λ n. is_some (place_of c.self.inside.spaces.params n)) c.as_slice.ensures
    ∙ param_there c.self.inside.decls.now c.self.inside.spaces.params (subst (AreOf c.self.inside.spaces.params) (names_of_params c.self.inside.decls.now) c.self.invariant.spaces_are.params_are) c.args.name.now ∙ ap (λ g. has_param g c.args.name.now) c.self.view_is
