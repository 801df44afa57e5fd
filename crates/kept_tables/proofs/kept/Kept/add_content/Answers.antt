use Rattle.std.proofs.Common.{ap}
use Rattle.kept_tables.specs.Holdings.{Holding, kept_calls_of}
use Rattle.kept_tables.proofs.HeldLemmas.{kept_texts}
use Rattle.kept_tables.proofs.RecordLemmas.{added_or_same, facts_added}
use Rattle.kept_tables.proofs.kept.Kept.add_content.Goals as goal

pub invariant_of-self : goal.invariant_of-self
invariant_of-self c = (
  kept_texts c.self.inside.heads c.self.inside.contents.texts c.add.new.self.texts c.self.inside.calls c.add.ensures.texts c.self.invariant.0,
  added_or_same c.self.inside.contents.contents c.add.new.self.contents c.self.inside.records.records c.args.value c.add.result c.requires
      c.add.ensures.contents c.add.ensures.same c.self.invariant.1,
)

pub returns-clause-tables : goal.returns-clause-tables
returns-clause-tables c =
    facts_added c.self.inside.contents.contents c.add.new.self.contents c.self.inside.records.records c.args.value c.add.result
    c.add.ensures.contents c.self.invariant.1
    (kept_calls_of c.self.inside.calls.entries.items) c.args.self.now.tables (ap (λ (h : Holding). h.tables) c.self.view_is)
