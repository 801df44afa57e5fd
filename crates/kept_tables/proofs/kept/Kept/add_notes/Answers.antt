use Rattle.std.proofs.Common.{ap, subst, sym}
use Rattle.std.specs.List.{All}
use Rattle.kept_notes.specs.Facts.{IsNotedIn}
use Rattle.kept_notes.proofs.Lemmas.{facts_put_all}
use Rattle.kept_tables.specs.Holdings.{Holding, with_notes}
use Rattle.kept_tables.proofs.RecordLemmas.{notes_put}
use Rattle.kept_tables.proofs.kept.Kept.add_notes.Goals as goal

pub invariant_of-self : goal.invariant_of-self
invariant_of-self c =
    let contents = c.self.inside.contents.contents in
    let notes = c.args.notes.items in
    let noted : All (IsNotedIn contents) notes = subst (λ (h : Holding). All (IsNotedIn h.tables.contents) notes) (sym c.self.view_is) c.requires.noted in (
      c.self.invariant.0,
      rw c.put_all.ensures (notes_put contents notes c.self.inside.records.records noted c.self.invariant.1),
    )

pub returns-clause-tables : goal.returns-clause-tables
returns-clause-tables c =
    rw (c.put_all.ensures, facts_put_all c.self.inside.contents.contents c.args.notes.items c.self.inside.records.records)
    (ap (λ (h : Holding). with_notes h.tables c.args.notes.items) c.self.view_is)
