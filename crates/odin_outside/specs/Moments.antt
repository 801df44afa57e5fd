-- What crashes leave over calls on a disk, one call after another.
use Rattle.std.specs.Prelude.{◌≡◌, ◌⊎◌, ℕ, List, Result, Ok, Err, IsTrue, OnOk}
use Rattle.std.proofs.Common.{inl, inr, sym, ◌∙◌, subst, arith}
use Rattle.odin_outside.specs.Disk.{Pending, Telling, MayLeave, IsCrashImage, synced_at, wrote, same_pending, Torn, ChangesPending, LeavesOnly, IsQuiet}
use Rattle.odin_outside.specs.Steps.{torn_step, torn_same, synced_only}

cases : {P Q R : Type 0} → (P → R) → (Q → R) → P ⊎ Q → R
cases f g (inl p) = f p
cases f g (inr q) = g q

pub follows_on : {T E : Type 0} (change : Pending → Pending) (old new : Telling) (r : Result T E) → ChangesPending change old new r → IsTrue old.follows → IsTrue new.follows
follows_on change old new r goes follows = subst IsTrue (sym goes.follows) follows

-- over one call
pub leaves_by_one_call : {T E : Type 0} (change : Pending → Pending) (old new : Telling) (r : Result T E) (P : List ℕ → Type 0) → IsTrue old.follows → ChangesPending change old new r
    → ((c : List ℕ) → old.left_since old.moment c → P c) → ((c : List ℕ) → MayLeave new c → P c) → LeavesOnly old new P
leaves_by_one_call change old new r P follows goes start now = record {
  later = goes.later follows;
  each = λ c left. cases (start c) (now c) (goes.nothing_else follows old.moment c (omega arith) left);
  before = λ t c le left. cases (λ earlier. inl earlier) (λ here. inr (now c here)) (goes.nothing_else follows t c le left);
  now = now;
}

-- over none
pub no_call : (old : Telling) (P : List ℕ → Type 0) → ((c : List ℕ) → old.left_since old.moment c → P c) → ((c : List ℕ) → MayLeave old c → P c) → LeavesOnly old old P
no_call old P start now = record { later = omega arith; each = start; before = λ t c le left. inl left; now = now }

-- over what is known to a call, and that call
pub next_call : {T E : Type 0} (change : Pending → Pending) (old mid new : Telling) (r : Result T E) (P : List ℕ → Type 0) → LeavesOnly old mid P → IsTrue mid.follows → ChangesPending change mid new r
    → ((c : List ℕ) → MayLeave new c → P c) → LeavesOnly old new P
next_call change old mid new r P so_far follows goes now =
    let first = so_far.later in
    let second = goes.later follows in
    record {
      later = omega arith;
      each = λ c left. cases (so_far.each c) (now c) (goes.nothing_else follows old.moment c first left);
      before = λ t c le left. cases (so_far.before t c le) (λ here. inr (now c here)) (goes.nothing_else follows t c (omega arith) left);
      now = now;
    }

-- one after the other
pub then : (old mid new : Telling) (P Q R : List ℕ → Type 0) → LeavesOnly old mid P → LeavesOnly mid new Q → ((c : List ℕ) → P c → R c) → ((c : List ℕ) → Q c → R c) → LeavesOnly old new R
then old mid new P Q R first second from also =
    let sooner = first.later in
    let later = second.later in
    record {
      later = omega arith;
      each = λ c left. cases (λ earlier. from c (first.each c earlier)) (also c) (second.before old.moment c sooner left);
      before = λ t c le left. cases (λ earlier. cases (λ still. inl still) (λ p. inr (from c p)) (first.before t c le earlier)) (λ q. inr (also c q)) (second.before t c (omega arith) left);
      now = λ c left. also c (second.now c left);
    }

pub weaker : (old new : Telling) (P Q : List ℕ → Type 0) → LeavesOnly old new P → ((c : List ℕ) → P c → Q c) → LeavesOnly old new Q
weaker old new P Q leaves from = record {
  later = leaves.later;
  each = λ c left. from c (leaves.each c left);
  before = λ t c le left. cases (λ earlier. inl earlier) (λ p. inr (from c p)) (leaves.before t c le left);
  now = λ c left. from c (leaves.now c left);
}

torn_from : (old : Telling) (pending : Pending) (at n : ℕ) → IsQuiet old → pending ≡ wrote at n old.pending → (c : List ℕ) → IsCrashImage pending c → Torn at n old.seen c
torn_from old pending at n quiet is c left =
    let step = torn_step old.pending at n c (subst (λ p. IsCrashImage p c) is left) in
    subst (λ d. Torn at n d c) (quiet.only step.0 step.1) step.2

unchanged_from : (old : Telling) (pending : Pending) (at n : ℕ) → IsQuiet old → pending ≡ old.pending → (c : List ℕ) → IsCrashImage pending c → Torn at n old.seen c
unchanged_from old pending at n quiet is c left = subst (λ d. Torn at n old.seen d) (sym (quiet.only c (subst (λ p. IsCrashImage p c) is left))) (torn_same at n old.seen)

-- after a write on a disk where nothing is pending
pub after_write : {T E : Type 0} (old new : Telling) (at n : ℕ) (r : Result T E) → IsQuiet old → ChangesPending (wrote at n) old new r → (c : List ℕ) → MayLeave new c → Torn at n old.seen c
after_write old new at n (Ok x) quiet goes c left = torn_from old new.pending at n quiet (goes.ok quiet.follows) c left
after_write old new at n (Err e) quiet goes c left = cases (λ same. unchanged_from old new.pending at n quiet same c left) (λ done. torn_from old new.pending at n quiet done c left) (goes.err quiet.follows)

synced_from : (mid : Telling) (pending : Pending) → MayLeave mid mid.seen → pending ≡ synced_at mid.seen → (c : List ℕ) → IsCrashImage pending c → MayLeave mid c
synced_from mid pending image is c left = subst (λ d. MayLeave mid d) (sym (synced_only mid.seen c (subst (λ p. IsCrashImage p c) is left))) image

-- a sync makes no new image
pub after_sync : {T E : Type 0} (mid new : Telling) (r : Result T E) → IsTrue mid.follows → MayLeave mid mid.seen → ChangesPending (λ _. synced_at mid.seen) mid new r → (c : List ℕ) → MayLeave new c → MayLeave mid c
after_sync mid new (Ok x) follows image goes c left = synced_from mid new.pending image (goes.ok follows) c left
after_sync mid new (Err e) follows image goes c left = cases (λ same. subst (λ p. IsCrashImage p c) same left) (λ done. synced_from mid new.pending image done c left) (goes.err follows)

-- a call that changes nothing makes no new image
pub after_look : {T E : Type 0} (old new : Telling) (r : Result T E) → ChangesPending same_pending old new r → IsTrue old.follows → (c : List ℕ) → MayLeave new c → MayLeave old c
after_look old new (Ok x) goes follows c left = subst (λ p. IsCrashImage p c) (goes.ok follows) left
after_look old new (Err e) goes follows c left = cases (λ same. subst (λ p. IsCrashImage p c) same left) (λ same. subst (λ p. IsCrashImage p c) same left) (goes.err follows)

-- after a sync nothing is pending
pub sync_quiets : {T E : Type 0} (old mid new : Telling) (r : Result T E) → (IsTrue old.follows → IsTrue mid.follows) → ChangesPending (λ _. synced_at mid.seen) mid new r → (IsTrue mid.follows → new.seen ≡ mid.seen) → OnOk r (IsQuiet old → IsQuiet new)
sync_quiets old mid new (Ok x) on goes same = λ quiet.
    let follows = on quiet.follows in
    record { follows = follows_on _ mid new (Ok x) goes follows; only = λ c left. synced_only mid.seen c (subst (λ p. IsCrashImage p c) (goes.ok follows) left) ∙ sym (same follows) }
sync_quiets old mid new (Err e) on goes same = tt
