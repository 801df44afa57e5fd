use Rattle.std.proofs.Common.{◌≡◌, ℕ, drop, length}
use Rattle.content_store.specs.Marks.{Finds, IsLed, leads}
use Rattle.content_store.proofs.marks.Marks.find.Given as goal

abbrev pub invariant-loop-level : goal.invariant-loop-level
invariant-loop-level g l =
    let marks = g.S.Sought.marks l.sought in
    record {
      rest : (i : ℕ) → g.S.Sought.is_at l.sought i → Finds l.self marks i → IsLed (leads l.self) l.self.clashing.items (drop l.level marks) i;
      long : l.level-end ≡ length marks;
    }
