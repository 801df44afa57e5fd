use Rattle.std.proofs.Common.{◌≡◌, ◌+◌, ◌^◌, ◌≤◌, length, reverse, vec_len}
use Rattle.kept_contents.specs.Added.{AreHeld, contents_with}
use Rattle.kept_contents.proofs.table.ContentTable.push_all.Given as goal

abbrev pub invariant-loop-content : goal.invariant-loop-content
invariant-loop-content l =
    AreHeld l.self.texts l.added.items
    × (length l.added.items ≤ l.self.room)
    × (length l.self.contents + length l.added.items ≤ 2 ^ 32)
    × (contents_with l.self.contents (reverse l.added.items) ≡ contents_with l.fn.self.contents (reverse l.fn.added.items))
    × (l.self.texts ≡ l.fn.self.texts)

abbrev pub decreases-loop-content : goal.decreases-loop-content
decreases-loop-content l = vec_len l.added
