-- A type's number is the place of its name.
use Rattle.std.proofs.Common.{◌∙◌, ap}
use Rattle.meaning_graph.specs.Graphs.{type_named}
use Rattle.type_graph.specs.Places.{place_of}
use Rattle.type_graph.proofs.ContextLemmas.{place_is_number}
use Rattle.type_graph.proofs.context.Context.number.Goals as goal

pub returns : goal.returns
returns c =
    c.place.ensures ∙ ap (place_of c.self.inside.spaces.types) c.as_slice.ensures
    ∙ place_is_number c.self.inside.decls.now c.self.inside.spaces.types c.self.invariant.spaces_are.types_are c.args.name.now ∙ ap (λ g. type_named g c.args.name.now) c.self.view_is
