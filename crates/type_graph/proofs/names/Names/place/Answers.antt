-- The map is looked up by the same test.
use Rattle.std.proofs.Common.{◌∙◌, ap}
use Rattle.type_graph.specs.Places.{place_of}
use Rattle.type_graph.proofs.PlaceLemmas.{lookup_seen}
use Rattle.type_graph.proofs.names.Names.place.Goals as goal

pub returns : goal.returns
returns c = c.copied.ensures ∙ c.get.ensures.value ∙ lookup_seen c.self.inside.places.entries c.args.name.now ∙ ap (λ v. place_of v c.args.name.now) c.self.view_is
