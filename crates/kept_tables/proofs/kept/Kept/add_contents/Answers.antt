use Rattle.std.proofs.Common.{◌∙◌, ap, reverse}
use Rattle.kept_contents.specs.Stocks.{values_of_contents}
use Rattle.kept_tables.specs.Holdings.{Holding, kept_calls_of, with_contents}
use Rattle.kept_tables.proofs.RecordLemmas.{records_more, tables_more}
use Rattle.kept_tables.proofs.kept.Kept.add_contents.Goals as goal

pub invariant_of-self : goal.invariant_of-self
invariant_of-self c = (
  rw c.push_all.ensures.texts c.self.invariant.0,
  records_more c.self.inside.contents.contents c.push_all.new.self.contents c.self.inside.records.records
      (values_of_contents (reverse c.args.added.items)) c.push_all.ensures.contents c.requires.short c.self.invariant.1,
)

pub returns-clause-tables : goal.returns-clause-tables
returns-clause-tables c =
    tables_more c.self.inside.contents.contents c.push_all.new.self.contents c.self.inside.records.records
    (values_of_contents (reverse c.args.added.items)) c.push_all.ensures.contents c.self.invariant.1 (kept_calls_of c.self.inside.calls.entries.items)
    ∙ ap (λ (h : Holding). with_contents h.tables (reverse c.args.added.items)) c.self.view_is
