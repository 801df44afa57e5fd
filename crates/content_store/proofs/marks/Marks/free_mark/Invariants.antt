use Rattle.std.proofs.Common.{◌≡◌, drop, length}
use Rattle.content_store.specs.Marks.{first_free, leads}
use Rattle.content_store.proofs.marks.Marks.free_mark.Given as goal

abbrev pub invariant-loop-level : goal.invariant-loop-level
invariant-loop-level g l =
    let marks = g.S.Sought.marks l.sought in
    record {
      rest : first_free (leads l.self) (drop l.level marks) ≡ first_free (leads l.self) marks;
      long : l.level-end ≡ length marks;
    }
