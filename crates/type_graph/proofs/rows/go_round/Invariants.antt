-- The rows so far have those above them.
use Rattle.std.proofs.Common.{◌≡◌, ◌<◌, ℕ, false}
use Rattle.type_graph.specs.Rows.{RowsGrow, HasAbove, HasAllAbove}
use Rattle.type_graph.proofs.rows.go_round.Given as goal

abbrev pub invariant-loop-number : goal.invariant-loop-number
invariant-loop-number l =
    RowsGrow l.supers l.width l.initial.words l.words
    × ((a : ℕ) → a < l.number → HasAbove l.supers l.width a l.initial.words l.words)
    × (l.grew ≡ false → l.words ≡ l.initial.words)

abbrev pub invariant-loop-passed : goal.invariant-loop-passed
invariant-loop-passed l =
    RowsGrow l.supers l.width l.fn.words l.words × HasAllAbove l.supers l.width l.fn.words l.words × (l.grew ≡ false → l.words ≡ l.fn.words)
