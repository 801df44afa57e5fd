use Rattle.std.proofs.Common.{refl, sym, subst}
use Rattle.object_values.specs.Texts.{SourceStock}
use Rattle.meaning_derive.specs.Given.{AreSources}
use Rattle.kept_tables.specs.Holdings.{Holding}
use Rattle.odin_store.specs.Held.{NotedPass}
use Rattle.odin_store.specs.Stamps.{AreStampedBy, AreUnchecked}
use Rattle.odin_store.proofs.FitLemmas.{to_test}
use Rattle.odin_store.proofs.StampLemmas.{unchecked_stamped}
use Rattle.odin_store.proofs.store.Store.of.Goals as goal

pub invariant_of-result : goal.invariant_of-result
invariant_of-result c = record {
  are = subst (λ (s : SourceStock). AreSources s.texts) (sym c.into_parts-kept.ensures.sources) c.requires.sources;
  stamped = subst (λ (k : Holding). AreStampedBy 0 k.records.records) (sym c.into_parts-kept.ensures.kept)
      (unchecked_stamped 0 c.args.loading.kept.records.records c.requires.unchecked);
  fits = subst (λ (k : Holding). NotedPass c.args.graph k.tables.records) (sym c.into_parts-kept.ensures.kept)
      (to_test c.fitting_is_tested.ensures c.args.graph c.args.loading.kept.tables.records c.requires.fits);
}

pub returns-clause-opened : goal.returns-clause-opened
returns-clause-opened c = record {
  graph_is = refl;
  first = refl;
  unchecked = subst (λ (k : Holding). AreUnchecked k.records.records) (sym c.into_parts-kept.ensures.kept) c.requires.unchecked;
}
