use Rattle.std.proofs.Common.{◌≡◌, ◌==◌, ◌++◌, ℕ}
use Rattle.project_file.specs.Rows.{pairs_pass, moved_on}
use Rattle.project_file.proofs.patterns.after_byte.Given as goal

-- what is written and what is left to write make the whole
abbrev pub invariant-loop-other : goal.invariant-loop-other
invariant-loop-other l =
    l.next.items ++ pairs_pass (λ (c : ℕ). c == l.byte) l.other-iterator.a.rest.now l.other-iterator.b.rest.now ≡ moved_on (λ (c : ℕ). c == l.byte) l.name
    l.row
