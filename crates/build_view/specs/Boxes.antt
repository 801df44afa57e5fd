-- The objects of a build as boxes: each stands in the column of its type, and a line leads to it from each object that it is made from.
use Rattle.std.specs.Prelude.{ℕ, ◌+◌, ◌*◌, Bool, max, List, ◌++◌, fold, flat_map, Option, Some, None, codes, decimal, if◌then◌else◌}
use Rattle.object_values.specs.declared.messages.Status.{Status}
use Rattle.build_view.specs.Escaped.{words}
use Rattle.build_view.specs.Levels.{level_word}
use Rattle.build_view.specs.declared.boxes.Spot.{Spot}
use Rattle.build_view.specs.declared.boxes.PageColumn.{PageColumn}
use Rattle.build_view.specs.declared.boxes.PageEdge.{PageEdge}
use Rattle.build_view.specs.declared.boxes.PageBox.{PageBox}
use Rattle.build_view.specs.declared.boxes.Drawing.{Drawing}

-- a column is 180 wide with the gap after it, a row is 24 high, and the names of the types stand above the first
abbrev pub left_of : ℕ → ℕ
left_of column = 180 * column

abbrev pub top_of : ℕ → ℕ
top_of row = 24 * row + 24

-- ---- boxes

-- an object that no tool made is a source
abbrev pub made_word : Option Status → List ℕ
made_word None = codes "source"
made_word (Some status) = level_word status

-- the class by which an object of this number lights what is made from it
abbrev pub use_class : ℕ → List ℕ
use_class number = codes " u" ++ decimal number

-- it has its colour by what its own tool said, and a click makes it the one that the page is at
unfoldable pub box_front : PageBox → List ℕ
box_front b =
    codes "<g id=\"o" ++ decimal b.number ++ codes "\" class=\"" ++ made_word b.status ++ flat_map use_class b.uses
    ++ codes "\"><a href=\"#o" ++ decimal b.number ++ codes "\">"

unfoldable pub box_title : PageBox → List ℕ
box_title b = codes "<title>" ++ words b.label ++ codes ": " ++ made_word b.status ++ codes "</title>"

-- what is longer than the box is cut off at its edge
unfoldable pub box_frame : Spot → List ℕ
box_frame s =
    codes "<svg x=\"" ++ decimal (left_of s.column) ++ codes "\" y=\"" ++ decimal (top_of s.row)
    ++ codes "\" width=\"150\" height=\"18\"><rect width=\"150\" height=\"18\"/><text x=\"3\" y=\"12\">"

unfoldable pub box_of : PageBox → List ℕ
box_of b = box_front b ++ box_title b ++ box_frame b.spot ++ words b.label ++ codes "</text></svg></a></g>\n"

-- at an object all boxes have another colour that are made from it, at once or by others
unfoldable pub light : PageBox → List ℕ
light b =
    codes "#o" ++ decimal b.number ++ codes ":target ~ .u" ++ decimal b.number ++ codes " rect { fill: #fe6 }\n"

-- ---- lines, and the names of types

-- from the right side of the one to the left side of the other
unfoldable pub edge_of : PageEdge → List ℕ
edge_of e =
    codes "<line x1=\"" ++ decimal (left_of e.from.column + 150) ++ codes "\" y1=\"" ++ decimal (top_of e.from.row + 9)
    ++ codes "\" x2=\"" ++ decimal (left_of e.to.column) ++ codes "\" y2=\"" ++ decimal (top_of e.to.row + 9) ++ codes "\"/>\n"

unfoldable pub column_name : PageColumn → List ℕ
column_name c = codes "<text x=\"" ++ decimal (left_of c.column) ++ codes "\" y=\"14\">" ++ words c.name ++ codes "</text>\n"

-- ---- the whole

-- how many columns there are, and rows
abbrev pub column_count : List PageBox → ℕ
column_count boxes = fold (λ count b. max count (b.spot.column + 1)) 0 boxes

abbrev pub row_count : List PageBox → ℕ
row_count boxes = fold (λ count b. max count (b.spot.row + 1)) 0 boxes

unfoldable pub drawing_front : List PageBox → List ℕ
drawing_front boxes =
    codes "<svg width=\"" ++ decimal (left_of (column_count boxes)) ++ codes "\" height=\"" ++ decimal (top_of (row_count boxes))
    ++ codes "\">\n"

abbrev pub rest_words : Bool → List ℕ
rest_words is_whole = if is_whole then codes "" else codes "<p>More objects aren't shown.</p>\n"

unfoldable pub drawing_of : Drawing → List ℕ
drawing_of d =
    codes "<h2>Objects</h2>\n" ++ drawing_front d.boxes ++ codes "<style>\n" ++ flat_map light d.boxes ++ codes "</style>\n"
    ++ flat_map column_name d.columns ++ flat_map edge_of d.edges ++ flat_map box_of d.boxes ++ codes "</svg>\n"
    ++ rest_words d.is_whole
