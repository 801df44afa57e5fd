use Rattle.std.proofs.Common.{drop}
use Rattle.meaning_records.specs.Batches.{AreReachedLast}
use Rattle.test_support.proofs.NoteLemmas.{MayFollow}
use Rattle.test_support.proofs.notable.are_reached_last.Given as goal

-- where what is left may follow, all stand so
abbrev pub invariant-loop-dep : goal.invariant-loop-dep
invariant-loop-dep l = MayFollow l.reached (drop l.dep-index l.deps) → AreReachedLast l.deps
