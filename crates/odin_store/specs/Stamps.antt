-- When the records of nodes in memory were checked.
use Rattle.std.specs.Prelude.{◌≡◌, ◌≤◌, ℕ, List, Some, None}
use Rattle.std.specs.List.{All}
use Rattle.object_values.specs.declared.records.NodeRecord.{NodeRecord}

-- the record counts as checked at no epoch after this
abbrev pub IsStampedBy : ℕ → NodeRecord → Type 0
IsStampedBy epoch r = (at : ℕ) → r.checked ≡ Some at → at ≤ epoch

-- nor does any other
abbrev pub AreStampedBy : ℕ → List NodeRecord → Type 0
AreStampedBy epoch = All (IsStampedBy epoch)

-- none counts as checked
abbrev pub AreUnchecked : List NodeRecord → Type 0
AreUnchecked = All (λ (r : NodeRecord). r.checked ≡ None)
