use Rattle.std.proofs.Common.{ap, subst, sym}
use Rattle.meaning_records.specs.Tables.{with_fact}
use Rattle.kept_notes.specs.Facts.{IsNotedIn, fact_of}
use Rattle.kept_notes.proofs.Lemmas.{facts_put}
use Rattle.kept_tables.specs.Holdings.{Holding}
use Rattle.kept_tables.proofs.RecordLemmas.{note_put}
use Rattle.kept_tables.proofs.kept.Kept.note.Goals as goal

pub invariant_of-self-2 : goal.invariant_of-self-2
invariant_of-self-2 c =
    let contents = c.self.inside.contents.contents in
    let here : IsNotedIn contents c.args.noted = subst (λ (h : Holding). IsNotedIn h.tables.contents c.args.noted) (sym c.self.view_is) c.requires in (
      c.self.invariant.0,
      rw (c.put-place.ensures.put, c.reserve.ensures.same) (note_put contents c.args.noted c.self.inside.records.records here c.self.invariant.1),
    )

pub returns-clause-tables : goal.returns-clause-tables
returns-clause-tables c =
    let contents = c.self.inside.contents.contents in
    rw (c.put-place.ensures.put, c.reserve.ensures.same, facts_put contents c.args.noted c.self.inside.records.records)
    (ap (λ (h : Holding). with_fact (fact_of h.tables.contents c.args.noted) h.tables) c.self.view_is)
