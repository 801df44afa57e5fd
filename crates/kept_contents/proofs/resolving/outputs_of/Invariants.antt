use Rattle.std.proofs.Common.{take}
use Rattle.meaning_records.specs.Tables.{AreOutputsOf}
use Rattle.kept_contents.proofs.resolving.outputs_of.Given as goal

abbrev pub invariant-loop-output : goal.invariant-loop-output
invariant-loop-output l = AreOutputsOf l.table.contents (take l.output-index l.stored) l.outputs
