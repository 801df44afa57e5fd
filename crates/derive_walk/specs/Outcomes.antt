-- The outcomes that are known: those that are kept, and those that were given.
use Rattle.std.specs.Prelude.{Option, Some, None}
use Rattle.object_values.specs.declared.calls.Outcome.{Outcome}
use Rattle.meaning_derive.specs.Derive.{Outcomes}
use Rattle.derive_walk.specs.Calls.{outcome_in, GivenOutcomes as Listed}

-- nothing is known
abbrev pub nothing_known : Outcomes
nothing_known call = None

abbrev pub given_or : Option Outcome → Option Outcome → Option Outcome
given_or (Some given) kept = Some given
given_or None kept = kept

-- the kept outcomes, after these were given
abbrev pub after : Outcomes → Listed → Outcomes
after kept given call = given_or (outcome_in given call) (kept call)
