-- The rows of the supertypes so far are added.
use Rattle.std.proofs.Common.{◌≡◌, false, [], get_or, take}
use Rattle.type_graph.specs.Rows.{RowsGrow}
use Rattle.type_graph.proofs.BitLemmas.{HasThese}
use Rattle.type_graph.proofs.rows.add_above.Given as goal

abbrev pub invariant-loop-above : goal.invariant-loop-above
invariant-loop-above l =
    RowsGrow l.supers l.width l.initial.words l.words
    × HasThese l.supers l.width l.number (take l.above-index (get_or l.supers l.number [])) l.initial.words l.words
    × (l.grew ≡ false → l.words ≡ l.initial.words)
