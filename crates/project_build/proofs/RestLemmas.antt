-- How tools are left, and what was counted.
use Rattle.std.proofs.Common.{◌≡◌, ◌≢◌, ◌≤◌, ℕ, List, [], length, Result, Ok, Err, OnOk, refl, sym, subst, arith}
use Rattle.std.specs.Prelude.{IsErrAnd}
use Rattle.odin_outside.specs.Causes.{Rose}
use Rattle.odin_outside.specs.Spawned.{Spawned}
use Rattle.odin_journal.specs.declared.fault.JournalFault.{JournalFault}
use Rattle.odin_journal.specs.Faults.{CountAfterJournalFault}
use Rattle.kept_derive.specs.Rests.{ComesToRest}
use Rattle.project_build.specs.declared.outputs.OutputFault.{OutputFault}
use Rattle.project_build.specs.declared.outputs.OutputFault.TheVariants as output
use Rattle.project_build.specs.declared.fault.TargetFault.{TargetFault}
use Rattle.project_build.specs.declared.fault.TargetFault.TheVariants as fault
use Rattle.project_build.specs.Built.{CountAfterTargetFault, IsOutputFault, TargetFaultIsCounted}

-- an answer that is no `Ok`
pub no_ok : {T E : Type 0} (A : Type 0) (P : E → Type 0) (r : Result T E) → IsErrAnd r P → OnOk r A
no_ok A P (Ok x) never = absurd never
no_ok A P (Err e) is = tt

-- ---- the tools

-- none runs, whatever the answer is
pub rest_none : {T E : Type 0} (Leaves : E → Type 0) (limit : ℕ) (before now : Spawned) (r : Result T E) → now.answer ≡ before.answer
    → before.faults ≤ now.faults → now.running ≡ [] → ComesToRest Leaves limit before now r
rest_none Leaves limit before now (Ok x) answer later none = record {
  answer = answer;
  later = later;
  few = subst (λ l. length l ≤ limit) (sym none) (omega arith);
  idle = none;
  left = tt;
}
rest_none Leaves limit before now (Err e) answer later none = record {
  answer = answer;
  later = later;
  few = subst (λ l. length l ≤ limit) (sym none) (omega arith);
  idle = tt;
  left = λ leaves. none;
}

-- a fault that says what is left
pub rest_err : {T E : Type 0} (Leaves : E → Type 0) (limit : ℕ) (before now : Spawned) (e : E) (r : Result T E) → IsErrAnd r (λ given. given ≡ e)
    → now.answer ≡ before.answer → before.faults ≤ now.faults → length now.running ≤ limit → (¬ Leaves e → now.running ≡ [])
    → ComesToRest Leaves limit before now r
rest_err Leaves limit before now e (Ok x) never answer later few left = absurd never
rest_err Leaves limit before now e (Err given) is answer later few left = record {
  answer = answer;
  later = later;
  few = few;
  idle = tt;
  left = subst (λ w. ¬ Leaves w → now.running ≡ []) (sym is) left;
}

-- ---- the counts

pub counted_ok : {T : Type 0} (before now written later : ℕ) (x : T) → now ≡ before → later ≡ written → TargetFaultIsCounted before now written later (Ok x)
counted_ok before now written later x disk files = record { disk = omega (arith, disk); files = omega (arith, files); ok = (disk, files); err = tt }

pub counted_store : {T : Type 0} (before now written : ℕ) (why : JournalFault) (r : Result T TargetFault) → IsErrAnd r (λ given. given ≡ fault.Store why)
    → before ≤ now → CountAfterJournalFault before now why → TargetFaultIsCounted before now written written r
counted_store before now written why (Ok x) never later counted = absurd never
counted_store before now written why (Err given) is later counted = record {
  disk = later;
  files = omega arith;
  ok = tt;
  err = subst (λ w. CountAfterTargetFault before now written written w) (sym is) (counted, refl);
}

pub counted_output : {T : Type 0} (name : List ℕ) (given : OutputFault) (why : TargetFault) (before now written later : ℕ) → IsOutputFault name given why
    → now ≡ before → written ≤ later → (given ≢ output.Memory → Rose written later) → TargetFaultIsCounted {T = T} before now written later (Err why)
counted_output name output.Failed (fault.Output told) before now written later is disk files rose =
    record { disk = omega (arith, disk); files = files; ok = tt; err = (disk, rose (λ e. cc)) }
counted_output name output.Failed (fault.Store store) before now written later is disk files rose = absurd is
counted_output name output.Failed fault.Memory before now written later is disk files rose =
    record { disk = omega (arith, disk); files = files; ok = tt; err = disk }
counted_output name output.Memory (fault.Output told) before now written later is disk files rose = absurd is
counted_output name output.Memory (fault.Store store) before now written later is disk files rose = absurd is
counted_output name output.Memory fault.Memory before now written later is disk files rose =
    record { disk = omega (arith, disk); files = files; ok = tt; err = disk }
