-- The page of a build: fixed markup, texts that are escaped, and numbers.
use Rattle.std.specs.Prelude.{ℕ, ◌+◌, ◌-◌, ◌*◌, ◌/◌, ◌==◌, max, List, [], ◌++◌, fold, flat_map, Option, Some, None, codes, decimal, if◌then◌else◌}
use Rattle.object_values.specs.declared.messages.Status.{Status}
use Rattle.build_view.specs.Boxes.{drawing_of}
use Rattle.build_view.specs.Escaped.{words}
use Rattle.build_view.specs.Levels.{level_word}
use Rattle.build_view.specs.declared.places.Place.{Place}
use Rattle.build_view.specs.declared.places.PageMessage.{PageMessage}
use Rattle.build_view.specs.declared.runs.Run.{Run}
use Rattle.build_view.specs.declared.pages.PageTarget.{PageTarget}
use Rattle.build_view.specs.declared.pages.MessageRow.{MessageRow}
use Rattle.build_view.specs.declared.pages.Page.{Page}

-- ---- tables

abbrev pub cell : List ℕ → List ℕ
cell markup = codes "<td>" ++ markup ++ codes "</td>"

-- a level, which has its colour by its class
abbrev pub level_cell : List ℕ → List ℕ
level_cell level = codes "<td class=\"" ++ level ++ codes "\">" ++ level ++ codes "</td>"

-- a target that has no object, since a fault ended the build
abbrev pub status_words : Option Status → List ℕ
status_words None = codes "unbuilt"
status_words (Some status) = level_word status

-- its name, its status, its file, and how many messages it has
unfoldable pub target_row : PageTarget → List ℕ
target_row t =
    codes "<tr>" ++ cell (words t.name) ++ level_cell (status_words t.status) ++ cell (words t.file)
    ++ cell (decimal t.messages) ++ codes "</tr>\n"

-- `path:line:column`
abbrev pub place_words : Option Place → List ℕ
place_words None = []
place_words (Some p) = words p.path ++ codes ":" ++ decimal p.line ++ codes ":" ++ decimal p.column

unfoldable pub message_cells : PageMessage → List ℕ
message_cells m = level_cell (level_word m.level) ++ cell (place_words m.place) ++ cell (words m.text)

-- a line of a file
abbrev pub line_cell : List ℕ → List ℕ
line_cell line = codes "<td><code>" ++ words line ++ codes "</code></td>"

unfoldable pub message_row : MessageRow → List ℕ
message_row r = codes "<tr>" ++ message_cells r.message ++ line_cell r.line ++ codes "</tr>\n"

-- ---- the timeline, which is 1,000 wide

-- how many microseconds are one step from left to right
abbrev pub step_of : ℕ → ℕ
step_of took = took / 1000 + 1

-- a bar is never so narrow that it isn't seen
abbrev pub width_of : ℕ → ℕ → ℕ
width_of step length = if length / step == 0 then 1 else length / step

-- where a bar stands: its slot is its row
unfoldable pub bar_box : ℕ → Run → List ℕ
bar_box step r =
    codes "<svg x=\"" ++ decimal (r.from / step) ++ codes "\" y=\"" ++ decimal (16 * r.slot)
    ++ codes "\" width=\"" ++ decimal (width_of step (r.to - r.from)) ++ codes "\" height=\"15\">"

-- its label, and its time in milliseconds
unfoldable pub bar_title : Run → List ℕ
bar_title r =
    codes "<title>" ++ words r.label ++ codes ": " ++ decimal ((r.to - r.from) / 1000)
    ++ codes " ms, after " ++ decimal (r.from / 1000) ++ codes " ms</title>"

unfoldable pub bar : ℕ → Run → List ℕ
bar step r =
    bar_box step r ++ bar_title r ++ codes "<rect width=\"1000\" height=\"15\"/><text x=\"3\" y=\"11\">"
    ++ words r.label ++ codes "</text></svg>\n"

abbrev pub slot_count : List Run → ℕ
slot_count runs = fold (λ count r. max count (r.slot + 1)) 0 runs

unfoldable pub timeline : ℕ → List Run → List ℕ
timeline took runs =
    codes "<svg viewBox=\"0 0 1000 " ++ decimal (16 * slot_count runs) ++ codes "\">\n"
    ++ flat_map (bar (step_of took)) runs ++ codes "</svg>\n"

-- ---- the whole

abbrev pub style : List ℕ
style =
    codes "<style>\nbody { font: 14px sans-serif; margin: 2em }\ntd, th { padding: 0 1em 0 0; text-align: left }\n"
    ++ codes "svg text { font: 10px sans-serif }\nrect { fill: #9cf; stroke: #369 }\nline { stroke: #999 }\n"
    ++ codes ".error, .abort { color: #b00 }\n.warning { color: #860 }\n"
    ++ codes ".source rect { fill: #eee }\n.warning rect { fill: #fd8 }\n.error rect, .abort rect { fill: #f99 }\n"
    ++ codes "g:target rect { fill: #fe6; stroke-width: 3 }\n</style>\n"

unfoldable pub front : List ℕ
front =
    codes "<!DOCTYPE html>\n<html lang=\"en\">\n<head>\n<meta charset=\"utf-8\">\n<title>odin-build</title>\n"
    ++ style ++ codes "</head>\n<body>\n<h1>odin-build</h1>\n"

unfoldable pub summary : ℕ → ℕ → List ℕ
summary started took =
    codes "<p>Tools started: " ++ decimal started ++ codes ". Time: " ++ decimal (took / 1000) ++ codes " ms.</p>\n"

unfoldable pub target_table : List PageTarget → List ℕ
target_table targets =
    codes "<h2>Targets</h2>\n<table>\n<tr><th>target</th><th>status</th><th>file</th><th>messages</th></tr>\n"
    ++ flat_map target_row targets ++ codes "</table>\n"

unfoldable pub message_table : List MessageRow → List ℕ
message_table rows =
    codes "<h2>Messages</h2>\n<table>\n<tr><th>level</th><th>place</th><th>text</th><th>line</th></tr>\n"
    ++ flat_map message_row rows ++ codes "</table>\n"

abbrev pub page_of : Page → List ℕ
page_of p =
    front ++ summary p.started p.took ++ target_table p.targets ++ drawing_of p.objects ++ codes "<h2>Tools</h2>\n" ++ timeline p.took p.runs
    ++ message_table p.messages ++ codes "</body>\n</html>\n"
