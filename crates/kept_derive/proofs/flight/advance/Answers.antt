use Rattle.std.proofs.Common.{ℕ, sym, ap, subst, ◌∙◌}
use Rattle.std.specs.List.{All}
use Rattle.meaning_derive.specs.Derive.{Sources}
use Rattle.meaning_derive.specs.Given.{AreSources}
use Rattle.meaning_records.specs.Batches.{IsNotable}
use Rattle.kept_tables.specs.Holdings.{Holding, fresh_in}
use Rattle.derive_walk.specs.Keeping.{AreReadable, records_in}
use Rattle.derive_walk.specs.Walks.{IsFormed}
use Rattle.derive_core.specs.Kept.{keeping_of, kept_world}
use Rattle.kept_derive.proofs.KnowLemmas.{says_facts, readable_of}
use Rattle.kept_derive.proofs.flight.advance.Goals as goal

pub advance_in-requires-clause-ground : goal.advance_in-requires-clause-ground
advance_in-requires-clause-ground g c =
    let kept = c.looks-looks.ensures ∙ c.kept-kept.ensures in
    let say = says_facts c.args.store.now c.kept-kept.result.now c.kept-kept.ensures c.records_fit.ensures.says in
    let may = subst (λ (k : Holding). All IsNotable (fresh_in k)) c.kept-kept.ensures c.records_fit.ensures.may in
    let fit = c.facts_fit.ensures c.args.planned.now c.requires.spelled in
    record {
      spellable = c.requires.spellable;
      sources = subst AreSources (sym (ap (λ z. z.texts) c.sources.ensures)) c.args.store.now.are;
      readable = subst (λ (z : Holding × ℕ). AreReadable c.args.planned.now (records_in (keeping_of z.0 z.1))) (λ i. (sym kept i, sym c.epoch.ensures i)) (readable_of c.args.planned.now c.args.store.now say may fit);
    }

pub advance_in-requires-clause-formed : goal.advance_in-requires-clause-formed
advance_in-requires-clause-formed g c =
    let kept = c.looks-looks.ensures ∙ c.kept-kept.ensures in
    let sources = ap (λ z. z.texts) c.sources.ensures in
    subst (λ (z : Holding × ℕ × Sources). IsFormed (kept_world z.0 z.1 c.args.planned.now z.2 c.args.core.now.given) c.args.core.now) (λ i. (sym kept i, sym c.epoch.ensures i, sym sources i)) c.requires.formed
