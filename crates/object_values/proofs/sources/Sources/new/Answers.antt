use Rattle.std.proofs.Common.{List, [], length, ap, ◌∙◌}
use Rattle.std.specs.FinMap as map
use Rattle.object_values.specs.Blocks.{joined}
use Rattle.object_values.specs.Places.{Pairs}
use Rattle.object_values.proofs.PlaceLemmas.{by_bytes}
use Rattle.object_values.proofs.sources.Sources.new.Goals as goal

pub returns : goal.returns
returns c =
    let none : Pairs = [] in
    ap (λ (blocks : List Pairs). map.from_sorted {R = by_bytes} (joined blocks)) c.new.ensures.items ∙ map.empty_of_len _ (map.len-entries _ ∙ ap length (map.entries-from_sorted by_bytes none tt))
