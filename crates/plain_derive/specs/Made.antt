-- The outcomes that a derivation goes by.
use Rattle.std.specs.Prelude.{◌≡◌, Option, Some}
use Rattle.odin_outside.specs.Spawned.{Table}
use Rattle.meaning_derive.specs.Derive.{Outcomes}
use Rattle.meaning_derive.specs.Given.{OutcomesFit, table_outcomes}

-- Outcomes that the tools may give: each fits its call, and where the answers to jobs are told they
-- are those.
pub record AreGivenBy (answer : Option Table) (outcomes : Outcomes) : Type 0 where
  pub fit : OutcomesFit outcomes
  pub told : (table : Table) → answer ≡ Some table → outcomes ≡ table_outcomes table
