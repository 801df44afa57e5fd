-- The runs of tools, as a trace tells them.
use Rattle.std.specs.Prelude.{ℕ, ◌-◌, List, map, codes}
use Rattle.std.specs.Str.Lossy.{utf8_lossy}
use Rattle.serde_json.specs.Data.{Data, number, unsigned, string, object, member, no_members, array}
use Rattle.serde_json.specs.View.{items_of}
use Rattle.shown_texts.specs.Shown.{shown}
use Rattle.build_view.specs.declared.runs.Run.{Run}

abbrev pub count : ℕ → Data
count n = number (unsigned n)

-- A complete event: its length, its name, its kind, and where and when it began. Each slot stands as a thread of one process.
abbrev pub event_at : ℕ → List ℕ → ℕ → ℕ → Data
event_at slot label from to =
    object (member (codes "dur") (count (to - from)) (member (codes "name") (string label)
    (member (codes "ph") (string (codes "X")) (member (codes "pid") (count 1)
    (member (codes "tid") (count slot) (member (codes "ts") (count from) no_members))))))

-- what is shown is UTF-8, so each letter of it stays
abbrev pub event_of : Run → Data
event_of r = event_at r.slot (utf8_lossy (shown r.label)) r.from r.to

abbrev pub trace_of : List Run → Data
trace_of runs = array (items_of (map event_of runs))
