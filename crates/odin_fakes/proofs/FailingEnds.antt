-- Ends of tools that are lost by plan.
use Rattle.std.proofs.Common.{◌≡◌, ℕ, subst}
use Rattle.odin_outside.specs.Causes.{IsCounted}
use Rattle.odin_outside.specs.Spawned.{Loses}
use Rattle.odin_memory.specs.Tools.{Tools, LosesNext}
use Rattle.odin_memory.proofs.Lemmas.{told_loses}
use Rattle.odin_fakes.specs.declared.plan.Failing.{Failing}
use Rattle.odin_fakes.specs.FailingTools.{told_failing}

-- an end that was lost by plan, after which a fault was counted
pub lost_by_plan : (old new : Failing Tools) (before slot lost : ℕ) → before ≡ old.plan.faults → IsCounted before new.plan.faults → LosesNext old.inner slot new.inner → slot ≡ lost → Loses (told_failing old) lost (told_failing new)
lost_by_plan old new before slot lost same counted loses is =
    subst (λ (s : ℕ). Loses (told_failing old) s (told_failing new)) is (told_loses old.inner new.inner slot old.plan.faults new.plan.faults (subst (λ (f : ℕ). IsCounted f new.plan.faults) same counted) loses)
