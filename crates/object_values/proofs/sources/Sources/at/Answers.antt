use Rattle.std.proofs.Common.{ap, sym, ◌∙◌}
use Rattle.std.specs.FinMap as map
use Rattle.object_values.specs.Texts.{SourceStock}
use Rattle.object_values.proofs.PlaceLemmas.{by_bytes}
use Rattle.object_values.proofs.sources.Sources.at.Goals as goal

pub returns-in_err-name : goal.returns-in_err-name
returns-in_err-name c =
    let pairs_are = ap (λ (s : SourceStock). map.entries s.texts) (sym c.self.view_is) ∙ map.entries-from_sorted by_bytes _ c.self.invariant.sorted in
    rw (c.from_residual.ensures, pairs_are, ← c.deref.ensures.value) c.in_err-name.ensures

pub returns : goal.returns
returns c =
    let pairs_are = ap (λ (s : SourceStock). map.entries s.texts) (sym c.self.view_is) ∙ map.entries-from_sorted by_bytes _ c.self.invariant.sorted in
    rw (pairs_are, ← c.deref.ensures.value) c.in_ok-name.ensures
