-- Which parts of a call differ from those of an earlier one.
use Rattle.std.specs.Prelude.{ℕ, Bool, true, false, ◌&&◌, List, [], fold, Option, Some, None, bytes_eq, if◌then◌else◌}
use Rattle.std.specs.List.{list_any}
use Rattle.object_values.specs.declared.calls.CallPart.{CallPart}
use Rattle.build_files.specs.MessageLines.{with_line}

-- both are absent, or both have these bytes
abbrev pub same_body : Option (List ℕ) → Option (List ℕ) → Bool
same_body None None = true
same_body (Some one) (Some other) = bytes_eq one other
same_body one other = false

-- the same text under the same label, in whatever slot
abbrev pub is_same : CallPart → CallPart → Bool
is_same one other = bytes_eq one.label other.label && same_body one.body other.body

abbrev pub has_part : List CallPart → CallPart → Bool
has_part parts part = list_any (is_same part) parts

-- with the part's label, once, where the other parts have no such part
abbrev pub with_lost : List CallPart → List (List ℕ) → CallPart → List (List ℕ)
with_lost others labels part = if has_part others part then labels else with_line labels part.label

-- The labels of the parts that only one of both calls has: of those that the new one has, and then of those that are gone; each label once.
abbrev pub changed_labels : List CallPart → List CallPart → List (List ℕ)
changed_labels old new = fold (with_lost new) (fold (with_lost old) [] new) old
