-- Makers that lead from the one type to the other by themselves.
use Rattle.std.specs.Prelude.{◌≡◌, ◌≤◌, ℕ, true, Option, Some, None}
use Rattle.meaning_graph.specs.Graphs.{Graph}
use Rattle.meaning_graph.specs.Types.{is_a}
use Rattle.meaning_graph.specs.Paths.{Makes}
use Rattle.path_planner.specs.declared.route.Ends.{Ends}
use Rattle.path_planner.specs.Ends.{from_to}

-- What a maker of these ends makes of the one type, where that is the other.
abbrev pub IsLedByMaker : Graph → Ends → ℕ → ℕ → Option ℕ → Type 0
IsLedByMaker g ends at to None = (from next : ℕ) → ends ≡ from_to from next → is_a g at from ≡ true → is_a g next to ≡ true → ⊥
IsLedByMaker g ends at to (Some next) = (from : ℕ) × (ends ≡ from_to from next) × (is_a g at from ≡ true) × (is_a g next to ≡ true)

-- The maker takes the one type, and what it makes is the other.
abbrev pub LeadsTo : Graph → ℕ → ℕ → ℕ → ℕ → Type 0
LeadsTo g at to number next = Makes g at number next × (is_a g next to ≡ true)

-- The least of such makers with what it makes, where there is any.
abbrev pub IsDirect : Graph → ℕ → ℕ → Option (ℕ × ℕ) → Type 0
IsDirect g at to None = (number next : ℕ) → LeadsTo g at to number next → ⊥
IsDirect g at to (Some found) = LeadsTo g at to found.0 found.1 × ((number next : ℕ) → LeadsTo g at to number next → found.0 ≤ number)
