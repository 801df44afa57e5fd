use Rattle.std.proofs.Common.{◌<◌, ℕ, get_or}
use Rattle.content_store.proofs.marks.find_among.Given as goal

abbrev pub invariant-loop-number : goal.invariant-loop-number
invariant-loop-number g l = (k : ℕ) → k < l.number-index → ¬ g.S.Sought.is_at l.sought (get_or l.numbers k 0)
