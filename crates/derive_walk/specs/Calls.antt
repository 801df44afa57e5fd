-- Lists of calls, and of calls with their outcomes.
use Rattle.std.specs.Prelude.{⊤, ◌≢◌, ◌↔◌, Bool, cond, List, [], ◌∷◌, ◌++◌, Option}
use Rattle.std.specs.List.{list_any}
use Rattle.std.specs.Map.{lookup}
use Rattle.object_values.specs.declared.calls.Call.{Call}
use Rattle.object_values.specs.declared.calls.Outcome.{Outcome}
use Rattle.object_values.specs.contracts.calls.CallPartialEq.TheImpl.{ghosts as call_eq}
use Rattle.meaning_texts.specs.Lists.{IsIn}

-- ---- outcomes

abbrev pub GivenOutcomes : Type 0
GivenOutcomes = List (Call × Outcome)

-- the outcome of a call
abbrev pub outcome_in : GivenOutcomes → Call → Option Outcome
outcome_in outcomes call = lookup (call_eq.eq call) outcomes

-- ---- calls

-- Each stands there once.
abbrev pub AreOnce : List Call → Type 0
AreOnce [] = ⊤
AreOnce (c ∷ calls) = (IsIn c calls → ⊥) × AreOnce calls

-- whether the call is one of the list
abbrev pub call_in : Call → List Call → Bool
call_in c calls = list_any (call_eq.eq c) calls

-- with the call after the others, where it isn't there
abbrev pub put_in : Call → List Call → List Call
put_in c calls = cond (call_in c calls) calls (calls ++ c ∷ [])

-- the second list has the calls of the first but this one
abbrev pub IsWithout : Call → List Call → List Call → Type 0
IsWithout call old new = (c : Call) → IsIn c new ↔ (IsIn c old × (c ≢ call))
