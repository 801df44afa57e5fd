-- What the laws of the layout say.
use Rattle.std.specs.Prelude.{◌≡◌, ◌↔◌, ℕ, ◌+◌, ◌<◌, true, false, All, List, length, Some, IsTrue, slice_index_or}
use Rattle.object_values.specs.declared.calls.Call.{Call}
use Rattle.meaning_calls.specs.Jobs.{IsWellFormed, body_name, call_text}
use Rattle.call_layout.specs.declared.told.PartTold.{PartTold}
use Rattle.call_layout.specs.Told.{call_told, read_call}
use Rattle.call_layout.specs.Labels.{StaysBelow, stays_below}
use Rattle.call_layout.specs.Layout.{AllCanStand, has_label, placed_parts}
use Rattle.call_layout.specs.Places.{Files, laid, HasFirstBytes}

-- Of each call that is well formed the file `call` tells its parts and outputs.
abbrev pub CallIsReadBack : Type 0
CallIsReadBack = (call : Call) → IsWellFormed call → read_call (call_text call) ≡ Some (call_told call)

-- The computed test holds of the paths that stay below alone.
abbrev pub StaysBelowIsTested : Type 0
StaysBelowIsTested = (path : List ℕ) → IsTrue (stays_below path) ↔ StaysBelow path

-- Where the labels can stand, and parts with one label have the same bytes, each part that is there stands at its label: the file there has the bytes of
-- the part, as they were before.
abbrev pub EachPartStands : Type 0
EachPartStands =
    (outs : List (List ℕ)) (parts : List PartTold) (files : Files)
    → AllCanStand outs parts → All (HasFirstBytes (Some files)) (placed_parts parts)
    → (k : ℕ) (part : PartTold) → k < length parts → part ≡ slice_index_or parts k part → part.is_there ≡ true
    → laid (placed_parts parts) files part.label ≡ files (body_name (k + 1))

-- What is no label of a part that is there is as it was: no file, where there was none.
abbrev pub OthersStay : Type 0
OthersStay =
    (parts : List PartTold) (files : Files) (path : List ℕ) → has_label parts path ≡ false
    → laid (placed_parts parts) files path ≡ files path
