use Rattle.std.proofs.Common.{◌≡◌, ◌∙◌, ap, reverse, sym}
use Rattle.meaning_records.specs.Tables.{Tables}
use Rattle.kept_contents.specs.Added.{contents_with}
use Rattle.kept_tables.proofs.BatchLemmas.{committed}
use Rattle.kept_tables.proofs.kept.Kept.commit.Goals as goal

pub add_contents-requires : goal.add_contents-requires
add_contents-requires c =
    let added = c.into_parts-added.ensures.added in
    let commits = c.requires.1 in
    rw added (record { held = commits.held; room = commits.room; few = commits.few; short = commits.short })

pub add_notes-requires-clause-noted : goal.add_notes-requires-clause-noted
add_notes-requires-clause-noted c =
    let parts = c.into_parts-added.ensures in
    let contents : c.add_contents.new.self.tables.contents ≡ contents_with c.args.self.now.tables.contents (reverse c.into_parts-added.result.0.items)
    = ap (λ (t : Tables). t.contents) c.add_contents.ensures.tables in
    rw (contents, parts.added, parts.notes) c.requires.1.notes

pub returns-clause-tables : goal.returns-clause-tables
returns-clause-tables c next commits =
    let parts = c.into_parts-added.ensures in
    committed c.args.self.now.tables c.add_contents.new.self.tables c.add_notes.new.self.tables c.add_call.new.self.tables c.args.prepared
    c.into_parts-added.result.0.items
    c.into_parts-added.result.1 c.into_parts-added.result.2.items parts.added parts.call parts.notes c.add_contents.ensures.tables
    c.add_notes.ensures.tables c.add_call.ensures.tables
    ∙ sym commits.next_is
