-- What is known of a disk that is only read.
use Rattle.std.proofs.Common.{◌≡◌, ◌⊎◌, inl, inr, ℕ, List, Result, Ok, Err, OnOk, OnErr, sym, subst, ◌∙◌, arith}
use Rattle.std.proofs.lemmas.List.{take_min}
use Rattle.odin_outside.specs.Disk.{Pending, Telling, MayLeave, ChangesPending, IsCrashImage, IsQuiet, Cut, cut_to, same_pending}
use Rattle.odin_outside.specs.Steps.{cut_step}
use Rattle.odin_outside.specs.Moments.{follows_on, leaves_by_one_call, then, after_look}
use Rattle.odin_journal.specs.Moments.{Untouched}

pub on_ok : {T E P : Type 0} (r : Result T E) → P → OnOk r P
on_ok (Ok x) holds = holds
on_ok (Err e) holds = tt

pub on_ok_two : {T E P Q R : Type 0} (r : Result T E) → (P → Q → R) → OnOk r P → OnOk r Q → OnOk r R
on_ok_two (Ok x) f p q = f p q
on_ok_two (Err e) f p q = tt

-- what one result says at `Ok`, another says that isn't `Ok` where it is an error
pub on_ok_from : {T E U F : Type 0} (r : Result T E) (s : Result U F) (P : Type 0) → OnErr r (OnOk s ⊥) → OnOk r P → OnOk s P
on_ok_from (Ok x) (Ok y) P none p = p
on_ok_from (Ok x) (Err f) P none p = tt
on_ok_from (Err e) (Ok y) P none p = absurd none
on_ok_from (Err e) (Err f) P none p = tt

pub same_result : {T E : Type 0} (r : Result T E) → OnErr r (OnOk r ⊥)
same_result (Ok x) = tt
same_result (Err e) = tt

pub untouched_on : (old mid new : Telling) → Untouched old mid → Untouched mid new → Untouched old new
untouched_on old mid new first second = record {
  quiet = second.quiet;
  same = second.same ∙ first.same;
  leaves = then old mid new (λ image. image ≡ old.seen) (λ image. image ≡ mid.seen) (λ image. image ≡ old.seen) first.leaves second.leaves (λ c is. is) (λ c is. is ∙ first.same);
}

-- a call that only reads leaves a disk untouched
pub untouched_call : {T E : Type 0} (old new : Telling) (r : Result T E) → ((c : List ℕ) → old.left_since old.moment c → MayLeave old c) → IsQuiet old → ChangesPending same_pending old new r → new.seen ≡ old.seen → Untouched old new
untouched_call old new r only_now quiet goes same =
    let here : (c : List ℕ) → MayLeave new c → c ≡ old.seen = λ c left. quiet.only c (after_look old new r goes quiet.follows c left) in
    record {
      quiet = record { follows = follows_on same_pending old new r goes quiet.follows; only = λ c left. here c left ∙ sym same };
      same = same;
      leaves = leaves_by_one_call same_pending old new r (λ image. image ≡ old.seen) quiet.follows goes (λ c left. quiet.only c (only_now c left)) here;
    }

-- ---- cuts

-- no cut is one that was cut short
pub cut_same : (size : ℕ) (image : List ℕ) → Cut size image image
cut_same size image = record { front = sym (take_min size image); no_shorter = omega arith; no_longer = omega arith }

cut_from : (old : Telling) (pending : Pending) (size : ℕ) → IsQuiet old → pending ≡ cut_to size old.pending → (c : List ℕ) → IsCrashImage pending c → Cut size old.seen c
cut_from old pending size quiet is c left =
    let step = cut_step old.pending size c (subst (λ p. IsCrashImage p c) is left) in
    subst (λ d. Cut size d c) (quiet.only step.0 step.1) step.2

uncut_from : (old : Telling) (pending : Pending) (size : ℕ) → IsQuiet old → pending ≡ old.pending → (c : List ℕ) → IsCrashImage pending c → Cut size old.seen c
uncut_from old pending size quiet is c left = subst (λ d. Cut size old.seen d) (sym (quiet.only c (subst (λ p. IsCrashImage p c) is left))) (cut_same size old.seen)

-- after a cut on a disk where nothing is pending
pub after_cut : {T E : Type 0} (old new : Telling) (size : ℕ) (r : Result T E) → IsQuiet old → ChangesPending (cut_to size) old new r → (c : List ℕ) → MayLeave new c → Cut size old.seen c
after_cut old new size (Ok x) quiet goes c left = cut_from old new.pending size quiet (goes.ok quiet.follows) c left
after_cut old new size (Err e) quiet goes c left = by (goes.err quiet.follows)
  where
    by : (new.pending ≡ old.pending) ⊎ (new.pending ≡ cut_to size old.pending) → Cut size old.seen c
    by (inl same) = uncut_from old new.pending size quiet same c left
    by (inr done) = cut_from old new.pending size quiet done c left
