use Rattle.std.proofs.Common.{◌≡◌, ◌∙◌, ap}
use Rattle.std.specs.Prelude.{Some}
use Rattle.meaning_records.specs.Tables.{Tables}
use Rattle.kept_contents.specs.Added.{contents_with}
use Rattle.kept_contents.specs.Stocks.{values_of_contents}
use Rattle.kept_notes.proofs.Lemmas.{notes_noted}
use Rattle.kept_tables.proofs.BatchLemmas.{if_ok}
use Rattle.kept_tables.proofs.NoteLemmas.{notes_had, notes_prepared, notes_short}
use Rattle.kept_tables.proofs.kept.Kept.prepare_nodes.Goals as goal

pub prepare-requires-clause-notes : goal.prepare-requires-clause-notes
prepare-requires-clause-notes c =
    let contents = c.args.self.now.tables.contents in
    let same : c.number_records.new.self.tables.contents ≡ contents = ap (λ (t : Tables). t.contents) c.number_records.ensures.same in
    rw (same, c.in_ok-stored.ensures.notes)
    (notes_noted (contents_with contents c.number_records.new.added) (Some c.args.epoch) c.in_ok-stored.stored c.args.fresh.now c.requires c.in_ok-stored.ensures.stored)

pub prepare-requires-clause-short : goal.prepare-requires-clause-short
prepare-requires-clause-short c =
    notes_short c.args.self.now.tables.contents c.args.fresh.now (values_of_contents c.number_records.new.added) c.requires
    (rw c.new-added.ensures at c.in_ok-stored.ensures.adds)

pub returns-clause-ok : goal.returns-clause-ok
returns-clause-ok c =
    let same : c.prepare.new.self.tables ≡ c.args.self.now.tables = c.prepare.ensures.same ∙ c.number_records.ensures.same in
    let adds = rw c.new-added.ensures at c.in_ok-stored.ensures.adds in
    let made = rw (c.in_ok-rest.ensures, c.in_ok-stored.ensures.notes) at c.prepare.ensures.made in
    if_ok c.prepare.result made
    (λ batch makes. notes_prepared c.args.self.now c.prepare.new.self same c.number_records.new.added batch c.args.fresh.now c.requires adds
    c.in_ok-stored.stored c.in_ok-stored.ensures.stored c.args.epoch makes)

pub returns-clause-notes : goal.returns-clause-notes
returns-clause-notes c =
    let same : c.prepare.new.self.tables ≡ c.args.self.now.tables = c.prepare.ensures.same ∙ c.number_records.ensures.same in
    let adds = rw c.new-added.ensures at c.in_ok-stored.ensures.adds in
    let made = rw (c.in_ok-rest.ensures, c.in_ok-stored.ensures.notes) at c.prepare.ensures.made in
    if_ok c.prepare.result made
    (λ batch makes. notes_had c.args.self.now c.prepare.new.self same c.number_records.new.added batch c.args.fresh.now c.requires adds
    c.in_ok-stored.stored c.in_ok-stored.ensures.stored c.args.epoch makes)
