use Rattle.std.proofs.Common.{length, ap, sym, ◌∙◌}
use Rattle.std.specs.FinMap as map
use Rattle.object_values.specs.Blocks.{joined}
use Rattle.object_values.specs.Texts.{SourceStock}
use Rattle.object_values.proofs.PlaceLemmas.{by_bytes}
use Rattle.object_values.proofs.sources.Sources.len.Goals as goal

pub returns : goal.returns
returns c =
    c.self.invariant.counted ∙ sym (map.len-entries _ ∙ ap length (map.entries-from_sorted by_bytes (joined c.self.inside.blocks.items) c.self.invariant.sorted)) ∙ ap (λ (s : SourceStock). map.len s.texts) c.self.view_is
