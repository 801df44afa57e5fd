use Rattle.std.proofs.lemmas.List.Elements.{All-nil}
use Rattle.kept_tables.specs.Holdings.{IsKeptIn}
use Rattle.kept_tables.proofs.RecordLemmas.{nothing_noted}
use Rattle.kept_tables.proofs.TableLemmas.{no_calls}
use Rattle.kept_tables.proofs.kept.Kept.new.Goals as goal

pub invariant_of-result : goal.invariant_of-result
invariant_of-result c = (
  (
    rw c.new-3.ensures (All-nil (IsKeptIn c.new-2.result c.new.result.texts)),
    rw c.new-3.ensures (no_calls c.new.result.texts c.new-3.result.marks),
  ),
  rw (c.new.ensures.contents, c.new-4.ensures) nothing_noted,
)
