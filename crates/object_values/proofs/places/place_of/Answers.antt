use Rattle.std.proofs.Common.{rules}
use Rattle.std.proofs.lemmas.Fn.{always_returns_same}
use Rattle.object_values.proofs.PlaceLemmas.{by_bytes, searched}
use Rattle.object_values.proofs.places.place_of.Goals as goal

-- the closure compares a pair's name, and the search meets its bounds
pub returns : goal.returns
returns c =
    let facts = c.binary_search_by.ensures in
    searched _ _ c.requires _ facts.bound (facts.position (λ pair. by_bytes pair.0 c.args.name.now) (always_returns_same _ _ _ (λ a r g called. (search rules, search rules))))
