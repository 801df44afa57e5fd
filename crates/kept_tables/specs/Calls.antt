-- Kept calls under their keys, and how they are found.
use Rattle.std.specs.Prelude.{◌-◌, ℕ, min, List, Option, option_map, slice_get, vec_capacity, vec_len}
use Rattle.content_store.specs.Bodies.{Bodies}
use Rattle.content_store.specs.Marks as marks
use Rattle.content_store.specs.Marks.{IsIndex}
use Rattle.kept_contents.specs.declared.keys.CallKey.{CallKey}
use Rattle.kept_contents.specs.Keys.{marks_of}
use Rattle.kept_tables.specs.declared.call_table.Entry.{Entry}
use Rattle.kept_tables.specs.declared.call_table.CallTable.{CallTable}
use Rattle.kept_tables.specs.declared.call_table.SoughtCall.{SoughtCall}

abbrev pub key_at : List (CallKey × Entry) → ℕ → Option CallKey
key_at entries i = option_map (λ (e : CallKey × Entry). e.0) (slice_get entries i)

abbrev pub key_of_sought : SoughtCall → CallKey
key_of_sought s = record { head = s.head; hash = s.hash; parts = s.parts.now }

-- Each key stands once, and is found by its marks, with these texts in memory.
abbrev pub IsCallIndex : Bodies → CallTable → Type 0
IsCallIndex texts calls = IsIndex (key_at calls.entries.items) (marks_of texts) calls.marks

-- for how many calls more there is room
abbrev pub room_of : CallTable → ℕ
room_of calls = min (vec_capacity calls.entries - vec_len calls.entries) (marks.room_of calls.marks)
