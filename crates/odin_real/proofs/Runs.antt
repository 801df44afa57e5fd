-- What calls one after the other tell of a file.
use Rattle.std.proofs.Common.{◌∙◌, ◌≤◌, ℕ, IsTrue, List, ap, sym, subst, inl, inr, arith}
use Rattle.std.specs.Prelude.{◌⊎◌}
use Rattle.odin_outside.specs.Disk.{Telling, MayLeave, synced_at}
use Rattle.odin_real.specs.Raw.{IsNothing, DiskStays, Syncs}

-- this moment is one of those since an earlier one
abbrev pub Counts : Telling → Type 0
Counts file = (t : ℕ) (c : List ℕ) → IsTrue file.follows → t ≤ file.moment → MayLeave file c → file.left_since t c

-- nothing is pending on an empty file, so that a sync of it changes nothing
pub stays_empty : {a b : Telling} → IsNothing a → Syncs a b → DiskStays a b
stays_empty {a} {b} nothing syncs = record { follows = syncs.follows; seen = syncs.seen; pending = λ on. either (syncs.pending on) (λ p. p ∙ ap synced_at (nothing.seen on) ∙ sym (nothing.pending on)); later = syncs.later; nothing_else = syncs.nothing_else; keeps = syncs.keeps }
  where
    either : {A : Type 0} {P : Type 0} → P ⊎ A → (A → P) → P
    either (inl p) f = p
    either (inr a) f = f a

pub stays_then : {a b c : Telling} → Counts a → DiskStays a b → DiskStays b c → DiskStays a c
stays_then {a} {b} {c} counts first next = record {
  follows = next.follows ∙ first.follows;
  seen = λ on. next.seen (on' on) ∙ first.seen on;
  pending = λ on. next.pending (on' on) ∙ first.pending on;
  later = λ on. omega (arith, first.later on, next.later (on' on));
  nothing_else = λ on t x le left. from_middle on t x le (next.nothing_else (on' on) t x (omega (arith, first.later on)) left);
  keeps = λ on t x le left. next.keeps (on' on) t x (omega (arith, first.later on)) (first.keeps on t x le left);
}
  where
    on' : IsTrue a.follows → IsTrue b.follows
    on' on = first.follows ∙ on

    old : (on : IsTrue a.follows) (t : ℕ) (x : List ℕ) → t ≤ a.moment → a.left_since t x ⊎ MayLeave b x → a.left_since t x ⊎ MayLeave c x
    old on t x le (inl left) = inl left
    old on t x le (inr may) = inl (counts t x on le (subst (λ p. MayLeave (record a { pending = p }) x) (first.pending on) may))

    from_middle : (on : IsTrue a.follows) (t : ℕ) (x : List ℕ) → t ≤ a.moment → b.left_since t x ⊎ MayLeave c x → a.left_since t x ⊎ MayLeave c x
    from_middle on t x le (inl left) = old on t x le (first.nothing_else on t x le left)
    from_middle on t x le (inr may) = inr may

-- nothing stands there still
pub nothing_still : {a b : Telling} → IsNothing a → DiskStays a b → IsNothing b
nothing_still {a} {b} nothing stays = record {
  seen = λ on. stays.seen (sym stays.follows ∙ on) ∙ nothing.seen (sym stays.follows ∙ on);
  pending = λ on. stays.pending (sym stays.follows ∙ on) ∙ nothing.pending (sym stays.follows ∙ on);
}

-- the making of a file changes nothing
pub made_stays : {a b c : Telling} → Counts a → IsNothing a → DiskStays a b → Syncs b c → DiskStays a c
made_stays counts nothing stays syncs = stays_then counts stays (stays_empty (nothing_still nothing stays) syncs)
