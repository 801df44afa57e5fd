use Rattle.std.proofs.Common.{◌≡◌, ◌≤◌, ◌+◌, ◌++◌, reverse, vec_len, vec_capacity}
use Rattle.object_values.proofs.block.move_end.Given as goal

abbrev pub invariant-loop-from : goal.invariant-loop-from
invariant-loop-from l =
    (l.from.items ++ reverse l.to.items ≡ l.initial.from.items) × (vec_capacity l.from ≡ vec_capacity l.initial.from) × (vec_capacity l.initial.to ≤ vec_capacity l.to)
    × (l.kept ≤ vec_len l.from) × (vec_len l.from + vec_len l.to ≡ vec_len l.initial.from)

abbrev pub decreases-loop-from : goal.decreases-loop-from
decreases-loop-from l = vec_len l.from
