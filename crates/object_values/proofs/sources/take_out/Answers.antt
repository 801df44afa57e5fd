use Rattle.std.proofs.Common.{rules, ◌≡◌, ◌≤◌, length}
use Rattle.object_values.proofs.BlockLemmas.{same_block, joined_removed, filled_removed, filled_set}
use Rattle.object_values.proofs.sources.take_out.Goals as goal

pub returns-then-len-eq0-clause-removed : goal.returns-then-len-eq0-clause-removed
returns-then-len-eq0-clause-removed c =
    let empty : length c.remove-text.new.self ≡ 0 = search rules in
    let here = same_block _ _ _ c.requires.at c.index_mut-block.ensures.value in
    rw (c.remove.ensures.items, ← here, ← c.remove-text.ensures.removed) (joined_removed _ _ _ c.requires.at empty)

pub returns-then-len-eq0-clause-filled : goal.returns-then-len-eq0-clause-filled
returns-then-len-eq0-clause-filled c = λ filled. rw c.remove.ensures.items (filled_removed _ _ _ c.requires.at filled)

pub returns-else-len-eq0-clause-filled : goal.returns-else-len-eq0-clause-filled
returns-else-len-eq0-clause-filled c =
    let some : 1 ≤ length c.remove-text.new.self = search rules in
    λ filled. filled_set _ _ _ filled some
