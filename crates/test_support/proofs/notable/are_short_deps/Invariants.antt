use Rattle.std.proofs.Common.{take}
use Rattle.std.specs.List.{All}
use Rattle.meaning_records.specs.Tables.{IsShort}
use Rattle.test_support.proofs.NoteLemmas.{values_in}
use Rattle.test_support.proofs.notable.are_short_deps.Given as goal

abbrev pub invariant-loop-dep : goal.invariant-loop-dep
invariant-loop-dep l = All IsShort (values_in (take l.dep-index l.deps))
