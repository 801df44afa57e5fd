use Rattle.std.proofs.Common.{◌≡◌, ◌∙◌, List, ap, reverse, sym}
use Rattle.object_values.specs.declared.views.Value.{Value}
use Rattle.kept_contents.specs.declared.shared.Content.{Content}
use Rattle.kept_contents.specs.Added.{contents_with}
use Rattle.kept_contents.specs.Stocks.{values_of_contents}
use Rattle.kept_tables.specs.Holdings.{AreNotedIn, Holding, fresh_in}
use Rattle.kept_tables.proofs.RecordLemmas.{copied_noted, same_facts, same_nodes}
use Rattle.kept_tables.proofs.kept.Kept.renumber.Goals as goal

pub replace-requires : goal.replace-requires
replace-requires c =
    let parts = c.into_parts-added.ensures in
    let inside = c.self.inside in
    rw parts.notes (same_nodes inside.contents.contents c.args.copy.contents inside.records.records c.args.copy.notes
    (c.requires.notes.say ∙ ap fresh_in (sym c.self.view_is)))

pub invariant_of-self : goal.invariant_of-self
invariant_of-self c =
    let parts = c.into_parts-added.ensures in
    let inside = c.self.inside in
    let added = c.into_parts-added.result.0.items in
    let contents : c.push_all.new.self.contents ≡ c.args.copy.contents = c.push_all.ensures.contents
    ∙ ap (λ (l : List Value). contents_with l (reverse added)) c.clear_contents.ensures.contents
    ∙ ap (λ (l : List Content). values_of_contents (reverse l)) parts.added ∙ parts.contents in
    let notes : c.replace.new.self.records ≡ c.args.copy.notes = c.replace.ensures ∙ parts.notes in
    let whole : AreNotedIn c.args.copy.contents c.args.copy.notes = copied_noted inside.contents.contents c.args.copy.contents inside.records.records c.args.copy.notes
    (c.requires.notes.say ∙ ap fresh_in (sym c.self.view_is)) c.requires.short c.requires.notes.named c.self.invariant.1 in (
      rw (c.push_all.ensures.texts, c.clear_contents.ensures.texts) c.self.invariant.0,
      rw (contents, notes) whole,
    )

pub returns-clause-records : goal.returns-clause-records
returns-clause-records c =
    let parts = c.into_parts-added.ensures in
    let inside = c.self.inside in
    let added = c.into_parts-added.result.0.items in
    let contents : c.push_all.new.self.contents ≡ c.args.copy.contents = c.push_all.ensures.contents
    ∙ ap (λ (l : List Value). contents_with l (reverse added)) c.clear_contents.ensures.contents
    ∙ ap (λ (l : List Content). values_of_contents (reverse l)) parts.added ∙ parts.contents in
    let notes : c.replace.new.self.records ≡ c.args.copy.notes = c.replace.ensures ∙ parts.notes in
    rw (contents, notes) (same_facts inside.contents.contents c.args.copy.contents inside.records.records c.args.copy.notes
    (c.requires.notes.say ∙ ap fresh_in (sym c.self.view_is)) ∙ ap (λ (h : Holding). h.tables.records) c.self.view_is)

pub returns-clause-fresh : goal.returns-clause-fresh
returns-clause-fresh c =
    let parts = c.into_parts-added.ensures in
    let added = c.into_parts-added.result.0.items in
    let contents : c.push_all.new.self.contents ≡ c.args.copy.contents = c.push_all.ensures.contents
    ∙ ap (λ (l : List Value). contents_with l (reverse added)) c.clear_contents.ensures.contents
    ∙ ap (λ (l : List Content). values_of_contents (reverse l)) parts.added ∙ parts.contents in
    let notes : c.replace.new.self.records ≡ c.args.copy.notes = c.replace.ensures ∙ parts.notes in
    rw (contents, notes) c.requires.notes.say

pub returns-clause-checked : goal.returns-clause-checked
returns-clause-checked c =
    let parts = c.into_parts-added.ensures in
    let notes : c.replace.new.self.records ≡ c.args.copy.notes = c.replace.ensures ∙ parts.notes in
    rw notes c.requires.notes.checked_at
