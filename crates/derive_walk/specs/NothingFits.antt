-- That all outcomes fit where none is kept.
use Rattle.std.proofs.Common.{subst}
use Rattle.std.specs.Prelude.{⊤, Option, Some, None}
use Rattle.object_values.specs.declared.calls.Outcome.{Outcome}
use Rattle.meaning_derive.specs.Given.{OutcomesFit}
use Rattle.derive_walk.specs.Outcomes.{nothing_known}

abbrev HasNoOutcome : Option Outcome → Type 0
HasNoOutcome None = ⊤
HasNoOutcome (Some outcome) = ⊥

pub nothing_fits : OutcomesFit nothing_known
nothing_fits call outcome is = absurd (subst HasNoOutcome is tt)
